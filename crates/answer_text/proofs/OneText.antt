-- Lawful tickets have one text: their parts, the kinds of their units, their prices and the dates are determined.
use Rattle.std.proofs.Common.{◌≡◌, ℕ, suc, ℤ, List, [], ◌∷◌, ◌++◌, length, Some, refl, ap, ap₂, sym, ◌∙◌, subst}
use Rattle.std.specs.Prelude.{sum_by, codes, decimal}
use Rattle.std.specs.List.{concat}
use Rattle.fare_law.specs.declared.flights.Flight.{Flight}
use Rattle.fare_law.specs.declared.requests.Request.{Request}
use Rattle.fare_law.specs.declared.tickets.Component.{Component}
use Rattle.fare_law.specs.declared.tickets.Ticket.{Ticket}
use Rattle.fare_law.specs.Best.{Costs}
use Rattle.fare_law.specs.Book.{Book}
use Rattle.fare_law.specs.Journey.{calls}
use Rattle.fare_law.specs.Lawful.{Lawful, unit_of}
use Rattle.fare_law.specs.Lists.{AllDifferent, Each, Matched, OnFirst}
use Rattle.fare_law.specs.Parts.{Part, IsPart, ComponentLawful, price_of}
use Rattle.market_time.specs.Dates.{day_spelled}
use Rattle.ticket_whole.proofs.OneKind.{kind_once}
use Rattle.ticket_whole.proofs.PartLookups.{numbers_known, part_is}
use Rattle.answer_text.specs.Answer.{MatchedFrom, ComponentText, TicketText, AnswerText}
use Rattle.answer_text.specs.Lines.{line, tickets_line, ticket_line, component_line, FlightLine}

-- lists that match one list are equal, where each of its elements matches one only

matched_once : {X Y : Type 0} (R : X → Y → Type 0) → ((x : X) (y z : Y) → R x y → R x z → y ≡ z)
    → (xs : List X) (ys zs : List Y) → Matched R xs ys → Matched R xs zs → ys ≡ zs
matched_once R once [] [] [] h k = refl
matched_once R once [] [] (z ∷ zs) h k = absurd k
matched_once R once [] (y ∷ ys) zs h k = absurd h
matched_once R once (x ∷ xs) [] zs h k = absurd h
matched_once R once (x ∷ xs) (y ∷ ys) [] h k = absurd k
matched_once R once (x ∷ xs) (y ∷ ys) (z ∷ zs) h k =
    let first : y ≡ z = once x y z h.0 k.0 in
    let rest : ys ≡ zs = matched_once R once xs ys zs h.1 k.1 in
    λ i. first i ∷ rest i

matched_from_once : {X Y : Type 0} (P : X → Type 0) (R : ℕ → X → Y → Type 0) → ((n : ℕ) (x : X) (y z : Y) → P x → R n x y → R n x z → y ≡ z)
    → (n : ℕ) (xs : List X) (ys zs : List Y) → Each P xs → MatchedFrom n R xs ys → MatchedFrom n R xs zs → ys ≡ zs
matched_from_once P R once n [] [] [] p h k = refl
matched_from_once P R once n [] [] (z ∷ zs) p h k = absurd k
matched_from_once P R once n [] (y ∷ ys) zs p h k = absurd h
matched_from_once P R once n (x ∷ xs) [] zs p h k = absurd h
matched_from_once P R once n (x ∷ xs) (y ∷ ys) [] p h k = absurd k
matched_from_once P R once n (x ∷ xs) (y ∷ ys) (z ∷ zs) p h k =
    let first : y ≡ z = once n x y z p.0 h.0 k.0 in
    let rest : ys ≡ zs = matched_from_once P R once (suc n) xs ys zs p.1 h.1 k.1 in
    λ i. first i ∷ rest i

each_any : {X : Type 0} (xs : List X) → Each (λ x. Unit {0}) xs
each_any [] = tt
each_any (x ∷ xs) = (tt, each_any xs)

-- a ticket whose components are lawful by themselves has one list of parts

part_once : (b : Book) (q : Request) (c : Component) (p r : Part) → OnFirst (λ f. AllDifferent (calls f.from p.flights)) p.flights → IsPart b q c p → IsPart b q c r → p ≡ r
part_once b q c p r apart h k =
    let flights : p.flights ≡ r.flights = sym (numbers_known b c.flights p.flights h.flights) ∙ numbers_known b c.flights r.flights k.flights in
    let same : Some p ≡ Some r = sym (part_is b q c p h apart) ∙ part_is b q c r k (subst (λ fs. OnFirst (λ f. AllDifferent (calls f.from fs)) fs) flights apart) in
    cc

parts_once : (b : Book) (q : Request) (cs : List Component) (ps rs : List Part) → Each (λ part. ComponentLawful b q.party part.flights part.piece) ps
    → Matched (IsPart b q) cs ps → Matched (IsPart b q) cs rs → ps ≡ rs
parts_once b q [] [] [] lawful h k = refl
parts_once b q [] [] (r ∷ rs) lawful h k = absurd k
parts_once b q [] (p ∷ ps) rs lawful h k = absurd h
parts_once b q (c ∷ cs) [] rs lawful h k = absurd h
parts_once b q (c ∷ cs) (p ∷ ps) [] lawful h k = absurd k
parts_once b q (c ∷ cs) (p ∷ ps) (r ∷ rs) lawful h k =
    let first : p ≡ r = part_once b q c p r lawful.0.shape.apart h.0 k.0 in
    let rest : ps ≡ rs = parts_once b q cs ps rs lawful.1 h.1 k.1 in
    λ i. first i ∷ rest i

-- the texts

abbrev OneDate : Type 0
OneDate = (one other : List ℕ) (day : ℤ) → day_spelled one ≡ Some day → day_spelled other ≡ Some day → one ≡ other

flight_line_once : OneDate → (f : Flight) (one other : List ℕ) → FlightLine f one → FlightLine f other → one ≡ other
flight_line_once dates f one other h k =
    h.written ∙ ap (λ date. line (codes "flight") (f.carrier.0 ∷ decimal f.number ∷ date ∷ f.from.0 ∷ f.to.0 ∷ [])) (dates h.date k.date f.day h.spells k.spells) ∙ sym k.written

component_once : OneDate → (parts : List Part) (number : ℕ) (part : Part) (one other : List ℕ) → ComponentText parts number part one → ComponentText parts number part other → one ≡ other
component_once dates parts number part one other h k =
    let kind : h.kind ≡ k.kind = kind_once h.kind k.kind (unit_of part.unit parts) h.unit k.unit in
    let lines : h.lines.lines ≡ k.lines.lines = matched_once FlightLine (flight_line_once dates) part.flights h.lines.lines k.lines.lines h.lines.each k.lines.each in
    let flights : h.flights ≡ k.flights = h.lines.written ∙ ap concat lines ∙ sym k.lines.written in
    h.written
    ∙ ap₂ (λ x text. component_line number part.unit x part.piece.reverse part.piece.fare.key (price_of part.flights part.piece) ++ text) kind flights
    ∙ sym k.written

abbrev total : List Part → ℕ
total parts = sum_by (λ part. price_of part.flights part.piece) parts

ticket_once : OneDate → (b : Book) (q : Request) (number : ℕ) (t : Ticket) (one other : List ℕ) → Lawful t b q
    → TicketText b q number t one → TicketText b q number t other → one ≡ other
ticket_once dates b q number t one other (parts, stand, lawful, some) h k =
    let same = λ (ps : List Part) (m : Matched (IsPart b q) t.components ps). parts_once b q t.components parts ps lawful.components stand m in
    let price : h.price ≡ k.price = costs_once same h.price k.price h.costs k.costs in
    let texts = λ (ps : List Part) (e : parts ≡ ps) (xs : List (List ℕ)) (m : MatchedFrom 1 (ComponentText ps) ps xs).
    subst (λ ps. MatchedFrom 1 (ComponentText ps) ps xs) (sym e) m in
    let components : h.components ≡ k.components =
    matched_from_once (λ x. Unit {0}) (ComponentText parts) (λ n x y z u. component_once dates parts n x y z) 1 parts h.components k.components (each_any parts)
    (texts h.parts (same h.parts h.stand) h.components h.each) (texts k.parts (same k.parts k.stand) k.components k.each) in
    h.written ∙ ap (λ x. ticket_line number x ++ concat h.components) price ∙ ap (λ x. ticket_line number k.price ++ concat x) components ∙ sym k.written
  where
    costs_once : ((ps : List Part) → Matched (IsPart b q) t.components ps → parts ≡ ps) → (one other : ℕ) → Costs t b q one → Costs t b q other → one ≡ other
    costs_once same one other (ps, m, e) (rs, n, f) = e ∙ ap total (sym (same ps m) ∙ same rs n) ∙ sym f

pub answer_once : OneDate → (b : Book) (q : Request) (tickets : List Ticket) (one other : List ℕ) → Each (λ t. Lawful t b q) tickets
    → AnswerText b q tickets one → AnswerText b q tickets other → one ≡ other
answer_once dates b q tickets one other lawful h k =
    let texts : h.texts ≡ k.texts =
    matched_from_once (λ t. Lawful t b q) (TicketText b q) (ticket_once dates b q) 1 tickets h.texts k.texts lawful h.each k.each in
    h.written ∙ ap (λ x. tickets_line (length tickets) ++ concat x) texts ∙ sym k.written
