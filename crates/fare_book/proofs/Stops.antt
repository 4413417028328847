-- The fault that an action has.
use Rattle.std.proofs.Common.{◌≡◌, ◌%◌, ◌≤◌, ℕ, List, Option, Some, None, Result, Ok, Err, IsSome, refl, sym, subst, arith}
use Rattle.fare_law.specs.declared.fares.Fare.{Fare}
use Rattle.fare_law.specs.declared.fares.FareKey.{FareKey}
use Rattle.fare_law.specs.declared.fares.FareKind.TheVariants.{R}
use Rattle.fare_law.specs.declared.filings.Action.{Action}
use Rattle.fare_law.specs.declared.filings.Action.TheVariants.{PutFare, DropFare, PutRule, DropRule, PutSeats, DropSeats}
use Rattle.fare_law.specs.declared.filings.BookWhy.{BookWhy}
use Rattle.fare_law.specs.declared.filings.BookWhy.TheVariants.{SamePlace, OddRound, NoRule, RuleInUse, NoFare, Limit, NoSeats}
use Rattle.fare_law.specs.declared.filings.SeatKey.{SeatKey}
use Rattle.fare_law.specs.declared.names.Carrier.{Carrier}
use Rattle.fare_law.specs.declared.rules.Rule.{Rule}
use Rattle.fare_law.specs.Book.{Book, live_fare, live_rule}
use Rattle.fare_law.specs.Faults.{FaultOf, Why, reason_number}
use Rattle.fare_law.specs.Lists.{HasMany}
use Rattle.fare_book.specs.Counts.{Exactly}
use Rattle.fare_book.specs.Drafts.{Acts, Drafts, Faultless, OnlyLimit, Places}
use Rattle.fare_book.specs.declared.draft.Draft.{Draft}
use Rattle.fare_book.specs.declared.draft.Stop.{Stop}
use Rattle.fare_book.specs.declared.draft.Stop.TheVariants.{Fault, Mem}
use Rattle.fare_law.specs.declared.limits.TheConstants.{MOST_FARES}

pub none_live : {A G : Type 0} (o : Option A) → o ≡ None → IsSome o → G
none_live None e s = absurd (cc)
none_live (Some x) e s = absurd (cc)

-- the one reason that an action can have
pub only : (b : Book) (a : Action) (why : BookWhy) → ((other : BookWhy) → Why b a other → other ≡ why) → Why b a why → FaultOf b a why
only b a why h w = (w, λ other o. subst (λ x. reason_number why ≤ reason_number x) (sym (h other o)) (omega arith))

-- ---- fares that are put
one_least : (other : BookWhy) → 1 ≤ reason_number other
one_least SamePlace = omega arith
one_least OddRound = omega arith
one_least NoRule = omega arith
one_least RuleInUse = omega arith
one_least NoFare = omega arith
one_least Limit = omega arith
one_least NoSeats = omega arith

pub same_place_fault : (b : Book) (fare : Fare) → fare.key.from ≡ fare.key.to → FaultOf b (PutFare fare) SamePlace
same_place_fault b fare e = (e, λ other w. one_least other)

module _ (b : Book) (fare : Fare) (apart : fare.key.from ≡ fare.key.to → ⊥) where
  pub odd_fault : (fare.kind ≡ R) × (fare.amount % 2 ≡ 1) → FaultOf b (PutFare fare) OddRound
  odd_fault o = (o, least)
    where
      least : (other : BookWhy) → Why b (PutFare fare) other → 2 ≤ reason_number other
      least SamePlace w = absurd (apart w)
      least OddRound w = omega arith
      least NoRule w = omega arith
      least RuleInUse w = omega arith
      least NoFare w = omega arith
      least Limit w = omega arith
      least NoSeats w = omega arith

  module _ (even : (fare.kind ≡ R) × (fare.amount % 2 ≡ 1) → ⊥) where
    pub no_rule_fault : live_rule b fare.key.carrier fare.rule ≡ None → FaultOf b (PutFare fare) NoRule
    no_rule_fault n = (n, least)
      where
        least : (other : BookWhy) → Why b (PutFare fare) other → 3 ≤ reason_number other
        least SamePlace w = absurd (apart w)
        least OddRound w = absurd (even w)
        least NoRule w = omega arith
        least RuleInUse w = omega arith
        least NoFare w = omega arith
        least Limit w = omega arith
        least NoSeats w = omega arith

    pub only_limit : IsSome (live_rule b fare.key.carrier fare.rule) → OnlyLimit b fare
    only_limit s SamePlace w = absurd (apart w)
    only_limit s OddRound w = absurd (even w)
    only_limit s NoRule w = none_live (live_rule b fare.key.carrier fare.rule) w s
    only_limit s RuleInUse w = absurd w
    only_limit s NoFare w = absurd w
    only_limit s Limit w = refl
    only_limit s NoSeats w = absurd w

pub faultless_fare : (b : Book) (fare : Fare) → OnlyLimit b fare → (Why b (PutFare fare) Limit → ⊥) → Faultless b (PutFare fare)
faultless_fare b fare h n why w = n (subst (Why b (PutFare fare)) (h why w) w)

-- ---- the others
pub dropped_fare : (b : Book) (key : FareKey) (other : BookWhy) → Why b (DropFare key) other → other ≡ NoFare
dropped_fare b key SamePlace w = absurd w
dropped_fare b key OddRound w = absurd w
dropped_fare b key NoRule w = absurd w
dropped_fare b key RuleInUse w = absurd w
dropped_fare b key NoFare w = refl
dropped_fare b key Limit w = absurd w
dropped_fare b key NoSeats w = absurd w

pub put_rule_limit : (b : Book) (c : Carrier) (n : ℕ) (rule : Rule) (other : BookWhy) → Why b (PutRule c n rule) other → other ≡ Limit
put_rule_limit b c n rule SamePlace w = absurd w
put_rule_limit b c n rule OddRound w = absurd w
put_rule_limit b c n rule NoRule w = absurd w
put_rule_limit b c n rule RuleInUse w = absurd w
put_rule_limit b c n rule NoFare w = absurd w
put_rule_limit b c n rule Limit w = refl
put_rule_limit b c n rule NoSeats w = absurd w

pub no_such_rule : (b : Book) (c : Carrier) (n : ℕ) → live_rule b c n ≡ None → FaultOf b (DropRule c n) NoRule
no_such_rule b c n e = (e, least)
  where
    least : (other : BookWhy) → Why b (DropRule c n) other → 3 ≤ reason_number other
    least SamePlace w = absurd w
    least OddRound w = absurd w
    least NoRule w = omega arith
    least RuleInUse w = omega arith
    least NoFare w = absurd w
    least Limit w = absurd w
    least NoSeats w = absurd w

pub rule_in_use : (b : Book) (c : Carrier) (n : ℕ) → IsSome (live_rule b c n) → Why b (DropRule c n) RuleInUse → FaultOf b (DropRule c n) RuleInUse
rule_in_use b c n s u = (u, least)
  where
    least : (other : BookWhy) → Why b (DropRule c n) other → 4 ≤ reason_number other
    least SamePlace w = absurd w
    least OddRound w = absurd w
    least NoRule w = none_live (live_rule b c n) w s
    least RuleInUse w = omega arith
    least NoFare w = absurd w
    least Limit w = absurd w
    least NoSeats w = absurd w

pub faultless_rule : (b : Book) (c : Carrier) (n : ℕ) → IsSome (live_rule b c n) → (Why b (DropRule c n) RuleInUse → ⊥) → Faultless b (DropRule c n)
faultless_rule b c n s u SamePlace w = w
faultless_rule b c n s u OddRound w = w
faultless_rule b c n s u NoRule w = none_live (live_rule b c n) w s
faultless_rule b c n s u RuleInUse w = u w
faultless_rule b c n s u NoFare w = w
faultless_rule b c n s u Limit w = w
faultless_rule b c n s u NoSeats w = w

pub put_seats_limit : (b : Book) (key : SeatKey) (seats : List ℕ) (other : BookWhy) → Why b (PutSeats key seats) other → other ≡ Limit
put_seats_limit b key seats SamePlace w = absurd w
put_seats_limit b key seats OddRound w = absurd w
put_seats_limit b key seats NoRule w = absurd w
put_seats_limit b key seats RuleInUse w = absurd w
put_seats_limit b key seats NoFare w = absurd w
put_seats_limit b key seats Limit w = refl
put_seats_limit b key seats NoSeats w = absurd w

pub dropped_seats : (b : Book) (key : SeatKey) (other : BookWhy) → Why b (DropSeats key) other → other ≡ NoSeats
dropped_seats b key SamePlace w = absurd w
dropped_seats b key OddRound w = absurd w
dropped_seats b key NoRule w = absurd w
dropped_seats b key RuleInUse w = absurd w
dropped_seats b key NoFare w = absurd w
dropped_seats b key Limit w = absurd w
dropped_seats b key NoSeats w = refl

pub faultless : (b : Book) (a : Action) (why : BookWhy) → ((other : BookWhy) → Why b a other → other ≡ why) → (Why b a why → ⊥) → Faultless b a
faultless b a why h n other w = n (subst (Why b a) (h other w) w)

-- ---- fares that have no other fault than want of room
pub rule_lives : (b : Book) (fare : Fare) → OnlyLimit b fare → IsSome (live_rule b fare.key.carrier fare.rule)
rule_lives b fare h = by (live_rule b fare.key.carrier fare.rule) refl
  where
    differ : NoRule ≡ Limit → ⊥
    differ e = cc

    by : (o : Option Rule) → live_rule b fare.key.carrier fare.rule ≡ o → IsSome o
    by None e = absurd (differ (h NoRule e))
    by (Some r) e = refl

pub limit_fault : (b : Book) (fare : Fare) → OnlyLimit b fare → (count : ℕ) → MOST_FARES ≤ count → count ≤ MOST_FARES → Exactly count (λ key. IsSome (live_fare b key)) → live_fare b fare.key ≡ None → FaultOf b (PutFare fare) Limit
limit_fault b fare h count low high c none = only b (PutFare fare) Limit h (none, subst (λ n. HasMany n (λ key. IsSome (live_fare b key))) (is count low high) c.many)
  where
    is : (count : ℕ) → MOST_FARES ≤ count → count ≤ MOST_FARES → count ≡ MOST_FARES
    is count low high = omega (arith, low, high)

pub placed_acts : (fare : Fare) (old new : Draft) (r : Result (Unit {0}) Stop) → ((b : Book) → Drafts b old → OnlyLimit b fare) → Places fare old new r → Acts (PutFare fare) old new r
placed_acts fare old new (Ok u) h p = λ b next d f. p b next (h b d) d f
placed_acts fare old new (Err (Fault why)) h p = λ b d. p b (h b d) d
placed_acts fare old new (Err Mem) h p = tt
