-- What is kept of a filing while its actions are taken one after another.
use Rattle.std.specs.Prelude.{◌≡◌, ◌≢◌, ◌≤◌, ℕ, List, [], ◌∷◌, ◌++◌, Some, IsSome, Result, Ok, Err}
use Rattle.std.specs.Arc.{arc_value}
use Rattle.std.specs.declared.sync.Arc.{Arc}
use Rattle.fare_law.specs.declared.fares.Fare.{Fare}
use Rattle.fare_law.specs.declared.fares.FareKey.{FareKey}
use Rattle.fare_law.specs.declared.filings.Action.{Action}
use Rattle.fare_law.specs.declared.filings.Action.TheVariants.{PutFare}
use Rattle.fare_law.specs.declared.filings.BookWhy.{BookWhy}
use Rattle.fare_law.specs.declared.filings.BookWhy.TheVariants.{Limit}
use Rattle.fare_law.specs.declared.filings.SeatKey.{SeatKey}
use Rattle.fare_law.specs.declared.names.Carrier.{Carrier}
use Rattle.fare_law.specs.declared.rules.Rule.{Rule}
use Rattle.fare_law.specs.Book.{Book, actions, free_rule, live_fare, live_rule, live_seats}
use Rattle.fare_law.specs.Faults.{FaultOf, Why}
use Rattle.fare_law.specs.Sheets.{Sheet}
use Rattle.fare_book.specs.Counts.{AtMost, Exactly}
use Rattle.fare_book.specs.Keeping.{rule_at, uses_at}
use Rattle.fare_book.specs.Tables.{AreKeyed, Fares, LiveRules, LiveSeats, MarketHolds, NamesRule}
use Rattle.fare_book.specs.declared.draft.Draft.{Draft}
use Rattle.fare_book.specs.declared.draft.Stop.{Stop}
use Rattle.fare_book.specs.declared.draft.Stop.TheVariants.{Fault, Mem}
use Rattle.fare_book.specs.declared.fare_table.FareTable.{FareTable}
use Rattle.fare_book.specs.declared.keys.Market.{Market}
use Rattle.fare_book.specs.declared.keys.RuleKey.{RuleKey}
use Rattle.fare_law.specs.declared.limits.TheConstants.{MOST_FARES, MOST_RULES}
use Rattle.seat_classes.specs.Held.{seats_at}
use Rattle.fare_law.specs.declared.limits.TheConstants.{MOST_SEAT_ROWS}

-- the one book has one action more than the other
pub record Follows (b : Book) (action : Action) (next : Book) : Type 0 where
  pub timetable : next.timetable ≡ b.timetable
  pub actions_are : actions next ≡ actions b ++ action ∷ []

-- the action has no fault
abbrev pub Faultless : Book → Action → Type 0
Faultless b action = (why : BookWhy) → Why b action why → ⊥

-- the seats of a draft
abbrev pub drafted_seats : Draft → List (SeatKey × List ℕ)
drafted_seats d = arc_value d.seats

-- the rule of each live fare is live
abbrev pub Stand : Fares → LiveRules → Type 0
Stand fare rule = (key : FareKey) (f : Fare) → fare key ≡ Some f → IsSome (rule f.key.carrier f.rule)

-- the live fares: by market, how many, and how many name each rule
pub record FaresKept {Z : Type 0} (fare : Fares) (rule : LiveRules) (changed : List RuleKey) (sheets : List (Market × Arc Sheet Z)) (tables : List (Market × FareTable)) (count : ℕ) (uses : List (RuleKey × ℕ)) : Type 0 where
  pub markets : (m : Market) → MarketHolds fare rule changed sheets tables m
  pub counted : Exactly count (λ key. IsSome (fare key))
  pub few : count ≤ MOST_FARES
  pub uses_are : (k : RuleKey) → Exactly (uses_at uses k) (NamesRule fare k)
  pub keyed : AreKeyed fare

-- the live rules but 0, and how many they are
pub record RulesKept (rule : LiveRules) (rules : List (RuleKey × Rule)) (count : ℕ) : Type 0 where
  pub rules_are : (k : RuleKey) → k.number ≢ 0 → rule_at rules k ≡ rule k.carrier k.number
  pub counted : Exactly count (λ (k : Carrier × ℕ). (k.1 ≢ 0) × IsSome (rule k.0 k.1))
  pub few : count ≤ MOST_RULES
  pub free : (c : Carrier) → rule c 0 ≡ Some free_rule

-- the live seats, and that there are as many as there may be at most
pub record SeatsKept (seats : LiveSeats) (held : List (SeatKey × List ℕ)) : Type 0 where
  pub seats_are : (key : SeatKey) → seats_at held key ≡ seats key
  pub few : AtMost MOST_SEAT_ROWS (λ key. IsSome (seats key))

-- the draft keeps what is live
pub record Keeping (fare : Fares) (rule : LiveRules) (seats : LiveSeats) (d : Draft) : Type 0 where
  pub fares_kept : FaresKept fare rule d.changed.keys d.sheets.entries d.tables.entries d.fare_count d.uses.entries
  pub rules_kept : RulesKept rule d.rules.entries d.rule_count
  pub seats_kept : SeatsKept seats (drafted_seats d)
  pub stand : Stand fare rule

-- the draft keeps what is live in the book
abbrev pub Drafts : Book → Draft → Type 0
Drafts b d = Keeping (live_fare b) (live_rule b) (live_seats b) d

-- what comes of an action: it has no fault and is taken, or it has the fault that is told
abbrev pub Acts : Action → Draft → Draft → Result (Unit {0}) Stop → Type 0
Acts action old new (Ok _) = (b next : Book) → Drafts b old → Follows b action next → Drafts next new × Faultless b action
Acts action old new (Err (Fault why)) = (b : Book) → Drafts b old → FaultOf b action why
Acts action old new (Err Mem) = Unit {0}

-- what comes of an action on seats, where these are live
abbrev pub ActsOnSeats : Action → (old new : List (SeatKey × List ℕ)) → Result (Unit {0}) Stop → Type 0
ActsOnSeats action old new (Ok _) = (b next : Book) → SeatsKept (live_seats b) old → Follows b action next → SeatsKept (live_seats next) new × Faultless b action
ActsOnSeats action old new (Err (Fault why)) = (b : Book) → SeatsKept (live_seats b) old → FaultOf b action why
ActsOnSeats action old new (Err Mem) = Unit {0}

-- a fare that is put has no fault but want of room
abbrev pub OnlyLimit : Book → Fare → Type 0
OnlyLimit b fare = (why : BookWhy) → Why b (PutFare fare) why → why ≡ Limit

-- what comes of a fare that is put, where it has no other fault than want of room
abbrev pub Places : Fare → Draft → Draft → Result (Unit {0}) Stop → Type 0
Places fare old new (Ok _) = (b next : Book) → OnlyLimit b fare → Drafts b old → Follows b (PutFare fare) next → Drafts next new × Faultless b (PutFare fare)
Places fare old new (Err (Fault why)) = (b : Book) → OnlyLimit b fare → Drafts b old → FaultOf b (PutFare fare) why
Places fare old new (Err Mem) = Unit {0}
