-- Texts of tickets, components and flights that are added one after another: for `answer_text`.
use Rattle.std.proofs.Common.{◌≡◌, ◌<◌, ◌≤◌, ◌+◌, ◌∙◌, ℕ, suc, List, [], ◌∷◌, ◌++◌, length, map, take, get_or, Some, IfSome, refl, ap, sym, subst, add-one, take-suc, append_assoc, append-nil, arith}
use Rattle.std.specs.List.{concat}
use Rattle.std.proofs.lemmas.List.{take_all}
use Rattle.std.proofs.lemmas.List.Folds.{concat-append}
use Rattle.fare_law.specs.declared.fares.FareKey.{FareKey}
use Rattle.fare_law.specs.declared.flights.Flight.{Flight}
use Rattle.fare_law.specs.declared.requests.Request.{Request}
use Rattle.fare_law.specs.declared.rules.UnitKind.{UnitKind}
use Rattle.fare_law.specs.declared.tickets.Component.{Component}
use Rattle.fare_law.specs.declared.tickets.Priced.{Priced}
use Rattle.fare_law.specs.declared.tickets.Ticket.{Ticket}
use Rattle.fare_law.specs.Book.{Book}
use Rattle.fare_law.specs.Lawful.{Lawful, unit_of}
use Rattle.fare_law.specs.Lists.{Each, Matched}
use Rattle.fare_law.specs.Parts.{Part, IsPart, ComponentLawful, price_of}
use Rattle.fare_law.specs.Units.{IsUnit, UnitLawful}
use Rattle.ticket_whole.specs.Known.{part_of, parts_of}
use Rattle.ticket_whole.proofs.PartLookups.{part_is, parts_are}
use Rattle.answer_text.specs.Answer.{MatchedFrom, FlightTexts, ComponentText, TicketText, AnswerText, IsRight}
use Rattle.answer_text.specs.Lines.{Adds, FlightLine, component_line, ticket_line, tickets_line}
use Rattle.answer_text.specs.Said.{Says}
use Rattle.answer_text.specs.declared.lines.ComponentLine.{ComponentLine}
use Rattle.law_lemmas.proofs.EachOne.{each_at}
use Rattle.law_lemmas.proofs.Lists.{front_length}

-- texts of these elements, which are numbered from n on, were added
pub record Added {X : Type 0} (n : ℕ) (Is : ℕ → X → List ℕ → Type 0) (xs : List X) (old new : List ℕ) : Type 0 where
  pub texts : List (List ℕ)
  pub each : MatchedFrom n Is xs texts
  pub whole : new ≡ old ++ concat texts

from_more : {X : Type 0} (Is : ℕ → X → List ℕ → Type 0) (n : ℕ) (xs : List X) (texts : List (List ℕ)) (x : X) (text : List ℕ)
    → MatchedFrom n Is xs texts → Is (n + length xs) x text → MatchedFrom n Is (xs ++ x ∷ []) (texts ++ text ∷ [])
from_more Is n [] [] x text h is = let e : n + 0 ≡ n = omega arith in (subst (λ m. Is m x text) e is, tt)
from_more Is n [] (t ∷ texts) x text h is = absurd h
from_more Is n (w ∷ xs) [] x text h is = absurd h
from_more Is n (w ∷ xs) (t ∷ texts) x text h is =
    let e : n + length (w ∷ xs) ≡ suc n + length xs = omega arith in
    (h.0, from_more Is (suc n) xs texts x text h.1 (subst (λ m. Is m x text) e is))

pub none_added : {X : Type 0} (Is : ℕ → X → List ℕ → Type 0) (old : List ℕ) → Added 1 Is [] old old
none_added Is old = record { texts = []; each = tt; whole = sym (append-nil old) }

-- one text more was added
pub one_added : {X : Type 0} (Is : ℕ → X → List ℕ → Type 0) (xs : List X) (at : ℕ) (x d : X) (old mid new : List ℕ) → at < length xs → x ≡ get_or xs at d
    → Added 1 Is (take at xs) old mid → Adds (Is (at + 1) x) mid new → Added 1 Is (take (at + 1) xs) old new
one_added Is xs at x d old mid new lt e so_far more = record {
  texts = so_far.texts ++ more.added ∷ [];
  each =
      let front : take (at + 1) xs ≡ take at xs ++ x ∷ [] = ap (λ n. take n xs) (add-one at) ∙ take-suc xs at d lt ∙ ap (λ y. take at xs ++ y ∷ []) (sym e) in
      let many : 1 + length (take at xs) ≡ at + 1 = omega (arith, front_length xs at lt) in
      subst (λ ys. MatchedFrom 1 Is ys (so_far.texts ++ more.added ∷ [])) (sym front) (from_more Is 1 (take at xs) so_far.texts x more.added so_far.each (subst (λ m. Is m x more.added) (sym many) more.is));
  whole =
      let joined : concat (so_far.texts ++ more.added ∷ []) ≡ concat so_far.texts ++ more.added = concat-append so_far.texts (more.added ∷ []) ∙ ap (λ t. concat so_far.texts ++ t) (append-nil more.added) in
      more.whole ∙ ap (λ t. t ++ more.added) so_far.whole ∙ append_assoc old (concat so_far.texts) more.added ∙ ap (λ t. old ++ t) (sym joined);
}

pub all_of : {X : Type 0} (Is : ℕ → X → List ℕ → Type 0) (xs : List X) (at : ℕ) (old new : List ℕ) → length xs ≤ at → Added 1 Is (take at xs) old new → Added 1 Is xs old new
all_of Is xs at old new le h = subst (λ ys. Added 1 Is ys old new) (take_all at xs le) h

-- flights

unnumbered : (n : ℕ) (fs : List Flight) (texts : List (List ℕ)) → MatchedFrom n (λ m f text. FlightLine f text) fs texts → Matched FlightLine fs texts
unnumbered n [] [] h = tt
unnumbered n [] (t ∷ texts) h = absurd h
unnumbered n (f ∷ fs) [] h = absurd h
unnumbered n (f ∷ fs) (t ∷ texts) h = (h.0, unnumbered (suc n) fs texts h.1)

pub flights_added : (fs : List Flight) (old new : List ℕ) → Added 1 (λ m f text. FlightLine f text) fs old new → Adds (FlightTexts fs) old new
flights_added fs old new h = record {
  added = concat h.texts;
  is = record { lines = h.texts; each = unnumbered 1 fs h.texts h.each; written = refl };
  whole = h.whole;
}

-- components

-- a component's line and its flights' texts are the component's text
pub component_added : (parts : List Part) (number : ℕ) (part : Part) (said : ComponentLine) (key : FareKey) (fs : List Flight) (old mid new : List ℕ) → Says parts number part said → key ≡ part.piece.fare.key → fs ≡ part.flights
    → mid ≡ old ++ component_line said.number said.unit said.kind said.reverse key said.price → Adds (FlightTexts fs) mid new → Adds (ComponentText parts number part) old new
component_added parts number part said key fs old mid new says of flown e h =
    let price = price_of part.flights part.piece in
    let line : component_line said.number said.unit said.kind said.reverse key said.price ≡ component_line number part.unit said.kind part.piece.reverse part.piece.fare.key price =
    ap (λ n. component_line n said.unit said.kind said.reverse key said.price) says.place
    ∙ ap (λ label. component_line number label said.kind said.reverse key said.price) says.label
    ∙ ap (λ r. component_line number part.unit said.kind r key said.price) says.reverse
    ∙ ap (λ (k : FareKey). component_line number part.unit said.kind part.piece.reverse k said.price) of
    ∙ ap (λ p. component_line number part.unit said.kind part.piece.reverse part.piece.fare.key p) says.price in
    record {
      added = component_line number part.unit said.kind part.piece.reverse part.piece.fare.key price ++ h.added;
      is = record { kind = said.kind; unit = says.unit; flights = h.added; lines = subst (λ gs. FlightTexts gs h.added) flown h.is; written = refl };
      whole = h.whole ∙ ap (λ t. t ++ h.added) (e ∙ ap (λ t. old ++ t) line) ∙ append_assoc old (component_line number part.unit said.kind part.piece.reverse part.piece.fare.key price) h.added;
    }

-- a component of a lawful ticket: its part, and the kind of its unit
pub record Stands (b : Book) (q : Request) (cs : List Component) (c : Component) : Type 0 where
  pub part : Part
  pub is : IsPart b q c part
  pub found : part_of b q.sale c ≡ Some part
  pub kind : UnitKind
  pub unit : IsUnit kind (unit_of c.unit (parts_of b q.sale cs))

each_stands : (b : Book) (q : Request) (all cs : List Component) (parts : List Part) → Matched (IsPart b q) cs parts → Each (λ part. ComponentLawful b q.party part.flights part.piece) parts
    → Each (λ part. UnitLawful (unit_of part.unit (parts_of b q.sale all))) parts → Each (Stands b q all) cs
each_stands b q all [] [] m lawful units = tt
each_stands b q all [] (part ∷ parts) m lawful units = tt
each_stands b q all (c ∷ cs) [] m lawful units = absurd m
each_stands b q all (c ∷ cs) (part ∷ parts) m lawful units = (
  record {
    part = part;
    is = m.0;
    found = part_is b q c part m.0 lawful.0.shape.apart;
    kind = units.0.0;
    unit = subst (λ label. IsUnit units.0.0 (unit_of label (parts_of b q.sale all))) m.0.unit units.0.1;
  },
  each_stands b q all cs parts m.1 lawful.1 units.1,
)

pub each_there : {X : Type 0} (P : X → Type 0) (xs : List X) (at : ℕ) (x d : X) → Each P xs → at < length xs → x ≡ get_or xs at d → P x
each_there P xs at x d h lt e = subst P (sym e) (each_at P xs at d h lt)

pub all_stand : (b : Book) (q : Request) (t : Ticket) → Lawful t b q → Each (Stands b q t.components) t.components
all_stand b q t (parts, m, lawful, some) =
    each_stands b q t.components t.components parts m lawful.components
    (subst (λ ps. Each (λ part. UnitLawful (unit_of part.unit ps)) parts) (sym (parts_are b q t.components parts m lawful.components)) lawful.units)

-- the text of the part that a component is
abbrev pub PartText : Book → Request → List Component → ℕ → Component → List ℕ → Type 0
PartText b q cs number c text = IfSome (part_of b q.sale c) (λ part. ComponentText (parts_of b q.sale cs) number part text)

pub part_added : (b : Book) (q : Request) (cs : List Component) (number : ℕ) (c : Component) (part : Part) (old new : List ℕ) → part_of b q.sale c ≡ Some part
    → Adds (ComponentText (parts_of b q.sale cs) number part) old new → Adds (PartText b q cs number c) old new
part_added b q cs number c part old new e h = record { added = h.added; is = subst (λ o. IfSome o (λ p. ComponentText (parts_of b q.sale cs) number p h.added)) (sym e) h.is; whole = h.whole }

of_parts : (b : Book) (q : Request) (all : List Component) (n : ℕ) (cs : List Component) (parts : List Part) (texts : List (List ℕ)) → Matched (IsPart b q) cs parts → Each (λ part. ComponentLawful b q.party part.flights part.piece) parts
    → MatchedFrom n (PartText b q all) cs texts → MatchedFrom n (ComponentText (parts_of b q.sale all)) parts texts
of_parts b q all n [] [] [] m lawful h = tt
of_parts b q all n [] [] (t ∷ texts) m lawful h = absurd h
of_parts b q all n [] (part ∷ parts) texts m lawful h = absurd m
of_parts b q all n (c ∷ cs) [] texts m lawful h = absurd m
of_parts b q all n (c ∷ cs) (part ∷ parts) [] m lawful h = absurd h
of_parts b q all n (c ∷ cs) (part ∷ parts) (t ∷ texts) m lawful h = (
  subst (λ o. IfSome o (λ p. ComponentText (parts_of b q.sale all) n p t)) (part_is b q c part m.0 lawful.0.shape.apart) h.0,
  of_parts b q all (suc n) cs parts texts m.1 lawful.1 h.1,
)

-- a ticket's line and the texts of its components are the ticket's text
pub ticket_added : (b : Book) (q : Request) (number : ℕ) (priced : Priced) (old mid new : List ℕ) → IsRight b q priced → mid ≡ old ++ ticket_line number priced.price
    → Added 1 (PartText b q priced.ticket.components) priced.ticket.components mid new → Adds (TicketText b q number priced.ticket) old new
ticket_added b q number priced old mid new ((parts, m, lawful, some), costs) e h =
    let cs = priced.ticket.components in
    let are = parts_are b q cs parts m lawful.components in
    record {
      added = ticket_line number priced.price ++ concat h.texts;
      is = record {
        price = priced.price;
        costs = costs;
        parts = parts;
        stand = m;
        components = h.texts;
        each = subst (λ ps. MatchedFrom 1 (ComponentText ps) parts h.texts) are (of_parts b q cs 1 cs parts h.texts m lawful.components h.each);
        written = refl;
      };
      whole = h.whole ∙ ap (λ t. t ++ concat h.texts) e ∙ append_assoc old (ticket_line number priced.price) (concat h.texts);
    }

-- tickets

abbrev pub PricedText : Book → Request → ℕ → Priced → List ℕ → Type 0
PricedText b q number priced text = TicketText b q number priced.ticket text

of_tickets : (b : Book) (q : Request) (n : ℕ) (tickets : List Priced) (texts : List (List ℕ)) → MatchedFrom n (PricedText b q) tickets texts → MatchedFrom n (TicketText b q) (map (λ p. p.ticket) tickets) texts
of_tickets b q n [] [] h = tt
of_tickets b q n [] (t ∷ texts) h = absurd h
of_tickets b q n (p ∷ tickets) [] h = absurd h
of_tickets b q n (p ∷ tickets) (t ∷ texts) h = (h.0, of_tickets b q (suc n) tickets texts h.1)

count_same : (tickets : List Priced) → length (map (λ p. p.ticket) tickets) ≡ length tickets
count_same [] = refl
count_same (p ∷ tickets) = ap suc (count_same tickets)

-- the line that counts the tickets, and their texts, are the answer's text
pub all_added : (b : Book) (q : Request) (tickets : List Priced) (old mid new : List ℕ) → mid ≡ old ++ tickets_line (length tickets) → Added 1 (PricedText b q) tickets mid new → Adds (AnswerText b q (map (λ p. p.ticket) tickets)) old new
all_added b q tickets old mid new e h = record {
  added = tickets_line (length tickets) ++ concat h.texts;
  is = record {
    texts = h.texts;
    each = of_tickets b q 1 tickets h.texts h.each;
    written = ap (λ n. tickets_line n ++ concat h.texts) (sym (count_same tickets));
  };
  whole = h.whole ∙ ap (λ t. t ++ concat h.texts) e ∙ append_assoc old (tickets_line (length tickets)) (concat h.texts);
}

-- a text that was added to none is the whole
pub added_alone : (Is : List ℕ → Type 0) (old new : List ℕ) → old ≡ [] → Adds Is old new → Is new
added_alone Is old new e h = subst Is (sym (h.whole ∙ ap (λ t. t ++ h.added) e)) h.is
