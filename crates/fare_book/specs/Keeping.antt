-- What a book keeps: its filings, and the sheets, rules, counts and seats that they leave.
use Rattle.std.specs.Prelude.{◌≡◌, ◌≢◌, ◌≤◌, ◌-◌, ℕ, if◌then◌else◌, List, length, Option, Some, None, option_map, unwrap_or, MatchOption, IsSome}
use Rattle.std.specs.Map.{lookup}
use Rattle.std.specs.Arc.{arc_value}
use Rattle.std.specs.declared.sync.Arc.{Arc}
use Rattle.fare_law.specs.declared.limits.TheConstants.{MOST_SEAT_ROWS}
use Rattle.fare_law.specs.declared.fares.Fare.{Fare}
use Rattle.fare_law.specs.declared.fares.FareKey.{FareKey}
use Rattle.fare_law.specs.declared.names.Carrier.{Carrier}
use Rattle.fare_law.specs.declared.names.Place.{Place}
use Rattle.fare_law.specs.declared.rules.Rule.{Rule}
use Rattle.fare_law.specs.declared.filings.SeatKey.{SeatKey}
use Rattle.fare_law.specs.Book.{Book, live_fare, live_rule, live_seats}
use Rattle.fare_law.specs.Faults.{Legal}
use Rattle.fare_law.specs.FilingLimits.{IsFiling}
use Rattle.fare_law.specs.Limits.{IsFare, HasKeys}
use Rattle.fare_law.specs.Lists.{Each}
use Rattle.fare_law.specs.RuleLimits.{IsRule}
use Rattle.fare_law.specs.Sheets.{Sheet, SheetOf}
use Rattle.fare_book.specs.Counts.{AtMost, Exactly}
use Rattle.fare_book.specs.Keys.{same_market, same_rule}
use Rattle.fare_book.specs.Seating.{SeatsBook}
use Rattle.fare_book.specs.declared.keys.Market.{Market}
use Rattle.fare_book.specs.declared.keys.RuleKey.{RuleKey}
use Rattle.fare_law.specs.declared.limits.TheConstants.{MOST_ENTRIES, MOST_FARES, MOST_RULES}

-- a fare of this key is live
abbrev pub IsLive : Book → FareKey → Type 0
IsLive b key = IsSome (live_fare b key)

-- a rule of this carrier and number, not 0, is live
abbrev pub IsLiveRule : Book → (Carrier × ℕ) → Type 0
IsLiveRule b k = (k.1 ≢ 0) × IsSome (live_rule b k.0 k.1)

-- seats of this key are live
abbrev pub HasSeats : Book → SeatKey → Type 0
HasSeats b key = IsSome (live_seats b key)

-- the live fare of this key names the rule
abbrev pub Names : Book → RuleKey → FareKey → Type 0
Names b rule key = (fare : Fare) × (live_fare b key ≡ Some fare) × (key.carrier ≡ rule.carrier) × (fare.rule ≡ rule.number)

-- no fare is live from the one place to the other
abbrev pub NoFare : Book → Place → Place → Type 0
NoFare b from to = (key : FareKey) → key.from ≡ from → key.to ≡ to → live_fare b key ≡ None

-- the rule of each live fare is live
abbrev pub RulesStand : Book → Type 0
RulesStand b = (key : FareKey) (fare : Fare) → live_fare b key ≡ Some fare → IsSome (live_rule b fare.key.carrier fare.rule)

module _ {Z : Type 0} where
  -- the sheet of a market
  abbrev pub sheet_at : List (Market × Arc Sheet Z) → Market → Option Sheet
  sheet_at sheets market = option_map arc_value (lookup (same_market market) sheets)

  -- each market has its sheet, or none where it has no fare
  abbrev pub Sheets : Book → List (Market × Arc Sheet Z) → Type 0
  Sheets b sheets = (m : Market) → MatchOption (sheet_at sheets m) (NoFare b m.from m.to) (SheetOf b m.from m.to)

-- the rule of a carrier and a number
abbrev pub rule_at : List (RuleKey × Rule) → RuleKey → Option Rule
rule_at rules key = lookup (same_rule key) rules

-- each carrier and number, not 0, has its live rule
abbrev pub Rules : Book → List (RuleKey × Rule) → Type 0
Rules b rules = (k : RuleKey) → k.number ≢ 0 → rule_at rules k ≡ live_rule b k.carrier k.number

-- how many fares name a rule
abbrev pub uses_at : List (RuleKey × ℕ) → RuleKey → ℕ
uses_at uses key = unwrap_or (lookup (same_rule key) uses) 0

-- how many fares name a rule beside one that names the rule `old`
abbrev pub uses_without : List (RuleKey × ℕ) → RuleKey → RuleKey → ℕ
uses_without uses old key = if same_rule key old then uses_at uses old - 1 else uses_at uses key

-- what the filings of a book are
pub record History (b : Book) : Type 0 where
  pub filings : Each IsFiling b.entries
  pub legal : Legal b.timetable b.entries
  pub few : length b.entries ≤ MOST_ENTRIES

-- how many fares, rules and seat rows are live, and how many fares name each rule
pub record Counted (b : Book) (fare_count rule_count : ℕ) (use_counts : List (RuleKey × ℕ)) : Type 0 where
  pub fares : Exactly fare_count (IsLive b)
  pub few_fares : fare_count ≤ MOST_FARES
  pub rules : Exactly rule_count (IsLiveRule b)
  pub few_rules : rule_count ≤ MOST_RULES
  pub seats : AtMost MOST_SEAT_ROWS (HasSeats b)
  pub uses : (k : RuleKey) → Exactly (uses_at use_counts k) (Names b k)
  pub stand : RulesStand b

-- what a book keeps beside its filings
pub record Keeps {Z : Type 0} (b : Book) (sheets : List (Market × Arc Sheet Z)) (rules : List (RuleKey × Rule)) (uses : List (RuleKey × ℕ)) (fare_count rule_count : ℕ) (seats : List (SeatKey × List ℕ)) : Type 0 where
  pub history : History b
  pub sheets_are : Sheets b sheets
  pub rules_are : Rules b rules
  pub counted : Counted b fare_count rule_count uses
  pub seats_are : SeatsBook b seats

-- what every book meets: its live fares and rules are within their limits, and so many at most
pub record Limited (b : Book) : Type 0 where
  pub fares : (key : FareKey) (fare : Fare) → live_fare b key ≡ Some fare → (key ≡ fare.key) × IsFare fare
  pub rules : (carrier : Carrier) (number : ℕ) (rule : Rule) → live_rule b carrier number ≡ Some rule → IsRule rule
  pub keys : HasKeys b
  pub stand : RulesStand b
  pub few_fares : AtMost MOST_FARES (IsLive b)
  pub few_rules : AtMost MOST_RULES (IsLiveRule b)
  pub few_seats : AtMost MOST_SEAT_ROWS (HasSeats b)
