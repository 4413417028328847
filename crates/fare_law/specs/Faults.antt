-- What a book refuses, at the first action of a filing that has a fault.
use Rattle.std.specs.Prelude.{◌≡◌, ◌≢◌, ◌⊎◌, ℕ, suc, ◌%◌, ◌≤◌, ◌<◌, List, [], ◌∷◌, ◌++◌, length, Some, None, IsSome}
use Rattle.fare_law.specs.declared.filings.Action.{Action}
use Rattle.fare_law.specs.declared.filings.Action.TheVariants.{PutFare, DropFare, PutRule, DropRule, PutSeats, DropSeats}
use Rattle.fare_law.specs.declared.filings.BookWhy.{BookWhy}
use Rattle.fare_law.specs.declared.filings.BookWhy.TheVariants.{SamePlace, OddRound, NoRule, RuleInUse, NoFare, Limit, NoSeats}
use Rattle.fare_law.specs.declared.names.Carrier.{Carrier}
use Rattle.fare_law.specs.declared.fares.Fare.{Fare}
use Rattle.fare_law.specs.declared.fares.FareKey.{FareKey}
use Rattle.fare_law.specs.declared.fares.FareKind.TheVariants.{R}
use Rattle.fare_law.specs.declared.filings.Filing.{Filing}
use Rattle.fare_law.specs.declared.limits.TheConstants.{MOST_ENTRIES, MOST_FARES, MOST_RULES, MOST_SEAT_ROWS}
use Rattle.fare_law.specs.Book.{Book, Timetable, live_fare, live_rule, live_seats}
use Rattle.fare_law.specs.Lists.{HasMany}

-- the reason that an action has in this book, with those before it tested first
abbrev pub Why : Book → Action → BookWhy → Type 0
Why b (PutFare fare) SamePlace = fare.key.from ≡ fare.key.to
Why b (PutFare fare) OddRound = (fare.kind ≡ R) × (fare.amount % 2 ≡ 1)
Why b (PutFare fare) NoRule = live_rule b fare.key.carrier fare.rule ≡ None
Why b (PutFare fare) Limit = (live_fare b fare.key ≡ None) × HasMany MOST_FARES (λ key. IsSome (live_fare b key))
Why b (DropFare key) NoFare = live_fare b key ≡ None
Why b (PutRule carrier number rule) Limit = (live_rule b carrier number ≡ None) × HasMany MOST_RULES (λ (k : Carrier × ℕ). (k.1 ≢ 0) × IsSome (live_rule b k.0 k.1))
Why b (DropRule carrier number) NoRule = live_rule b carrier number ≡ None
Why b (DropRule carrier number) RuleInUse = (key : FareKey) × (fare : Fare) × (live_fare b key ≡ Some fare) × (key.carrier ≡ carrier) × (fare.rule ≡ number)
Why b (PutSeats key seats) Limit = (live_seats b key ≡ None) × HasMany MOST_SEAT_ROWS (λ key. IsSome (live_seats b key))
Why b (DropSeats key) NoSeats = live_seats b key ≡ None
Why b _ _ = ⊥

abbrev pub reason_number : BookWhy → ℕ
reason_number SamePlace = 1
reason_number OddRound = 2
reason_number NoRule = 3
reason_number RuleInUse = 4
reason_number NoFare = 5
reason_number Limit = 6
reason_number NoSeats = 7

-- this is the reason of the action: the least that holds
abbrev pub FaultOf : Book → Action → BookWhy → Type 0
FaultOf b action why = Why b action why × ((other : BookWhy) → Why b action other → reason_number why ≤ reason_number other)

-- the book with one more entry
abbrev pub filed : Book → List Action → Book
filed b actions = record b { entries = b.entries ++ record { actions = actions } ∷ [] }

-- The fault of a filing: at action 0, or at the first action with a fault where those before it stand.
abbrev pub Fault : Book → Filing → ℕ → BookWhy → Type 0
Fault b filing at why =
    ((at ≡ 0) × (why ≡ Limit) × (MOST_ENTRIES ≤ length b.entries))
    ⊎ ((length b.entries < MOST_ENTRIES) × ((before : List Action) × (action : Action) × (after : List Action)
    × (filing.actions ≡ before ++ action ∷ after) × (at ≡ suc (length before)) × FaultOf (filed b before) action why
    × ((front : List Action) (earlier : Action) (rest : List Action) → before ≡ front ++ earlier ∷ rest → (other : BookWhy) → Why (filed b front) earlier other → ⊥)))

-- A legal history: no entry has a fault after the entries before it.
abbrev pub Legal : Timetable → List Filing → Type 0
Legal timetable history =
    (before : List Filing) (filing : Filing) (after : List Filing) → history ≡ before ++ filing ∷ after
    → (at : ℕ) (why : BookWhy) → Fault (record { timetable = timetable; entries = before }) filing at why → ⊥
