-- What components cost, summed: for the price of a ticket. Given on to the crates above.
use Rattle.std.proofs.Common.{◌≡◌, ◌<◌, ◌≤◌, ◌+◌, ◌*◌, ℕ, zero, suc, List, [], ◌∷◌, ◌++◌, length, take, get_or, refl, ap, ap₂, sym, ◌∙◌, subst, Option, Some, None, MatchOption, add-one, take-suc, arith, inl, inr, sum, sum_by}
use Rattle.std.specs.List.{Any, cons_option, slice_index_or}
use Rattle.std.proofs.lemmas.List.{take_all}
use Rattle.std.proofs.lemmas.List.Sums.{sum_by-cons}
use Rattle.fare_law.specs.declared.fares.Fare.{Fare}
use Rattle.fare_law.specs.declared.flights.Flight.{Flight}
use Rattle.fare_law.specs.declared.requests.Request.{Request}
use Rattle.fare_law.specs.declared.tickets.Component.{Component}
use Rattle.fare_law.specs.declared.tickets.Ticket.{Ticket}
use Rattle.fare_law.specs.Book.{Book, flight_at, live_rule}
use Rattle.fare_law.specs.Parts.{Part, IsPart, Numbers, fare_price, price_of}
use Rattle.fare_law.specs.Lists.{Matched, OnFirst}
use Rattle.fare_law.specs.Best.{Costs}
use Rattle.ticket_whole.specs.Known.{IsUnknown, known_flights}
use Rattle.ticket_whole.specs.Prices.{ComponentCosts, HasNoPrice, TicketCosts}
use Rattle.law_lemmas.proofs.LawFacts.{numbered_unknown, numbers_one}
use Rattle.law_lemmas.proofs.Options.{none_or_some, some_same}
use Rattle.law_lemmas.proofs.Pairs.{matched_more}

-- flights that are all known are those of their numbers
pub numbered : (b : Book) (ns : List ℕ) → (Any (IsUnknown b) ns → ⊥) → Numbers b ns (known_flights b ns)
numbered b [] h = tt
numbered b (n ∷ ns) h = elim (none_or_some (flight_at b n)) [
  | inl none ↦ absurd (h (0, n, omega arith, refl, none))
  | inr some ↦ subst (λ o. Matched (λ m f. flight_at b m ≡ Some f) (n ∷ ns) (cons_option o (known_flights b ns))) (sym some.1) (some.1, numbered b ns (λ u. h (suc u.0, u.1, omega (arith, u.2), u.3, u.4)))
]

-- the first components cost so much
pub record SoFar (b : Book) (cs : List Component) (i total : ℕ) : Type 0 where
  pub prices : List ℕ
  pub each : Matched (ComponentCosts b) (take i cs) prices
  pub adds : total ≡ sum prices
  pub low : total ≤ i * 1035000000

sum_more : (ps : List ℕ) (p : ℕ) → sum (ps ++ p ∷ []) ≡ sum ps + p
sum_more [] p = omega arith
sum_more (x ∷ ps) p = omega (arith, sum_more ps p, sum_by-cons (λ (n : ℕ). n) x (ps ++ p ∷ []), sum_by-cons (λ (n : ℕ). n) x ps)

pub one_further : (b : Book) (cs : List Component) (i total : ℕ) (c : Component) (p : ℕ) → SoFar b cs i total → i < length cs → c ≡ get_or cs i c → ComponentCosts b c p → p ≤ 1035000000 → SoFar b cs (i + 1) (total + p)
one_further b cs i total c p s lt e costs low = record {
  prices = s.prices ++ p ∷ [];
  each =
      let front : take (i + 1) cs ≡ take i cs ++ c ∷ [] = ap (λ n. take n cs) (add-one i) ∙ take-suc cs i c lt ∙ ap (λ y. take i cs ++ y ∷ []) (sym e) in
      subst (λ xs. Matched (ComponentCosts b) xs (s.prices ++ p ∷ [])) (sym front) (matched_more (ComponentCosts b) (take i cs) s.prices c p s.each costs);
  adds = omega (arith, s.adds, sum_more s.prices p);
  low = omega (arith, s.low, low);
}

pub all_priced : (b : Book) (t : Ticket) (i total : ℕ) → SoFar b t.components i total → length t.components ≤ i → TicketCosts b t total
all_priced b t i total s le = record { prices = s.prices; each = subst (λ xs. Matched (ComponentCosts b) xs s.prices) (take_all i t.components le) s.each; adds = s.adds }

part_has_price : (b : Book) (q : Request) (c : Component) (part : Part) → IsPart b q c part → HasNoPrice b c → ⊥
part_has_price b q c part h (inl none) = no_flight _ c.flights part.flights none h.flights h.stands.begins
  where
    no_flight : (P : Flight → Type 0) (ns : List ℕ) (fs : List Flight) → ns ≡ [] → Numbers b ns fs → OnFirst P fs → ⊥
    no_flight P [] [] e n o = o
    no_flight P [] (f ∷ fs) e n o = n
    no_flight P (n ∷ ns) fs e m o = absurd (cc)
part_has_price b q c part h (inr (inl u)) = numbered_unknown b c.flights part.flights h.flights u.0 u.1 u.2 u.3 u.4
part_has_price b q c part h (inr (inr none)) = let w : ◌≡◌ {A = Option Fare} (Some part.piece.fare) None = sym h.stands.fare ∙ none in absurd (cc)

one_price : (b : Book) (q : Request) (c : Component) (part : Part) (p : ℕ) → IsPart b q c part → ComponentCosts b c p → p ≡ price_of part.flights part.piece
one_price b q c part p h k =
    let fare : k.fare ≡ part.piece.fare = some_same k.fare part.piece.fare (sym k.fare_is ∙ h.stands.fare) in
    let rule : k.rule ≡ part.piece.rule = some_same k.rule part.piece.rule (sym k.rule_is ∙ ap (λ (f : Fare). live_rule b c.fare.carrier f.rule) fare ∙ h.stands.rule) in
    let flights : k.flights ≡ part.flights = numbers_one b c.flights k.flights part.flights k.numbered h.flights in
    k.adds
    ∙ ap₂ (fare_price k.flights) fare rule
    ∙ ap (λ fs. price_of fs part.piece) flights

-- the price of a component that is this part
pub part_price : (b : Book) (c : Component) (result : Option ℕ) → MatchOption result (HasNoPrice b c) (ComponentCosts b c) → (q : Request) (part : Part) → IsPart b q c part → result ≡ Some (price_of part.flights part.piece)
part_price b c None none q part h = absurd (part_has_price b q c part h none)
part_price b c (Some p) costs q part h = ap Some (one_price b q c part p h costs)

one_sum : (b : Book) (q : Request) (cs : List Component) (parts : List Part) (prices : List ℕ) → Matched (IsPart b q) cs parts → Matched (ComponentCosts b) cs prices → sum prices ≡ sum_by (λ part. price_of part.flights part.piece) parts
one_sum b q [] [] [] h k = refl
one_sum b q [] [] (p ∷ prices) h k = absurd k
one_sum b q [] (part ∷ parts) prices h k = absurd h
one_sum b q (c ∷ cs) [] prices h k = absurd h
one_sum b q (c ∷ cs) (part ∷ parts) [] h k = absurd k
one_sum b q (c ∷ cs) (part ∷ parts) (p ∷ prices) h k = sum_by-cons (λ (n : ℕ). n) p prices ∙ ap₂ (λ x y. x + y) (one_price b q c part p h.0 k.0) (one_sum b q cs parts prices h.1 k.1) ∙ sym (sum_by-cons (λ (y : Part). price_of y.flights y.piece) part parts)

all_parts : (b : Book) (q : Request) (cs : List Component) (parts : List Part) → Matched (IsPart b q) cs parts → (k : ℕ) (c : Component) → k < length cs → slice_index_or cs k c ≡ c → HasNoPrice b c → ⊥
all_parts b q [] parts h k c lt e none = absurd (omega arith)
all_parts b q (d ∷ cs) [] h k c lt e none = absurd h
all_parts b q (d ∷ cs) (part ∷ parts) h zero c lt e none = part_has_price b q d part h.0 (subst (HasNoPrice b) (sym e) none)
all_parts b q (d ∷ cs) (part ∷ parts) h (suc k) c lt e none = all_parts b q cs parts h.1 k c (omega (arith, lt)) e none

-- a ticket whose parts cost so much has this price
pub costs_told : (t : Ticket) (b : Book) (result : Option ℕ) → MatchOption result (Any (HasNoPrice b) t.components) (TicketCosts b t) → (q : Request) (price : ℕ) → Costs t b q price → result ≡ Some price
costs_told t b None none q price h = absurd (all_parts b q t.components h.0 h.1 none.0 none.1 none.2 none.3 none.4)
costs_told t b (Some p) costs q price h = ap Some (costs.adds ∙ one_sum b q t.components h.0 costs.prices h.1 costs.each ∙ sym h.2)

pub at_some : (b : Book) (cs : List Component) (i : ℕ) (c : Component) → i < length cs → c ≡ get_or cs i c → HasNoPrice b c → Any (HasNoPrice b) cs
at_some b cs i c lt e none = (i, c, lt, sym e, none)
