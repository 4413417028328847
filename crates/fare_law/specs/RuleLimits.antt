-- The limits of a fare's rule.
use Rattle.std.specs.Prelude.{◌<◌, ◌≤◌, ◌≤ℤ◌, ℕ, List, length, IfSome}
use Rattle.std.specs.Int.{IsInRange}
use Rattle.fare_law.specs.Days.{IsCalendarDay}
use Rattle.fare_law.specs.Limits.{IsPlace}
use Rattle.fare_law.specs.Lists.{Each, EachPair}
use Rattle.fare_law.specs.Names.{IsCarrier}
use Rattle.fare_law.specs.declared.rules.CombineRule.{CombineRule}
use Rattle.fare_law.specs.declared.rules.DayRange.{DayRange}
use Rattle.fare_law.specs.declared.rules.DayTime.{DayTime}
use Rattle.fare_law.specs.declared.rules.FlightRange.{FlightRange}
use Rattle.fare_law.specs.declared.rules.FlightRule.{FlightRule}
use Rattle.fare_law.specs.declared.rules.MinStay.{MinStay}
use Rattle.fare_law.specs.declared.rules.Rule.{Rule}
use Rattle.fare_law.specs.declared.rules.StopRule.{StopRule}
use Rattle.fare_law.specs.declared.rules.Surcharge.{Surcharge}
use Rattle.fare_law.specs.declared.rules.TransferRule.{TransferRule}
use Rattle.fare_law.specs.declared.rules.TravelRule.{TravelRule}
use Rattle.fare_law.specs.declared.rules.UnitKind.{UnitKind}
use Rattle.fare_law.specs.declared.rules.UnitKind.TheVariants.{OneWay, RoundTrip, OpenJaw, Circle}

-- 1 to `most` of these
pub record IsListOf {A : Type 0} (most : ℕ) (P : A → Type 0) (xs : List A) : Type 0 where
  pub count : IsInRange 1 most (length xs)
  pub each : Each P xs

abbrev pub IsWeekday : ℕ → Type 0
IsWeekday = IsInRange 1 7

-- 0 to 365
abbrev pub IsDays : ℕ → Type 0
IsDays days = days ≤ 365

pub record IsDayRange (r : DayRange) : Type 0 where
  pub first : IsCalendarDay r.first
  pub last : IsCalendarDay r.last
  pub in_turn : r.first ≤ℤ r.last

pub record IsFlightRange (r : FlightRange) : Type 0 where
  pub carrier : IsCarrier r.carrier
  pub low : 1 ≤ r.low
  pub in_turn : r.low ≤ r.high
  pub high : r.high ≤ 9999

pub record IsDayTime (t : DayTime) : Type 0 where
  pub days : IsListOf 7 IsWeekday t.days
  pub ascending : EachPair ◌<◌ t.days
  pub in_turn : t.from ≤ t.to
  pub to : t.to < 1440

abbrev pub IsFlightRule : FlightRule → Type 0
IsFlightRule r = IsListOf 16 IsFlightRange r.flights

abbrev pub IsMinStay : MinStay → Type 0
IsMinStay r = IsDays r.days

pub record IsStopRule (r : StopRule) : Type 0 where
  pub max : r.max ≤ 3
  pub charge : r.charge ≤ 1000000
  pub places : IfSome r.places (IsListOf 16 IsPlace)

abbrev pub IsTransferRule : TransferRule → Type 0
IsTransferRule r = r.max ≤ 3

-- where a kind stands in their order
abbrev pub rank_of_kind : UnitKind → ℕ
rank_of_kind OneWay = 0
rank_of_kind RoundTrip = 1
rank_of_kind OpenJaw = 2
rank_of_kind Circle = 3

abbrev pub IsAnyKind : UnitKind → Type 0
IsAnyKind kind = Unit {0}

-- the one kind stands before the other in their order
abbrev pub StandsBefore : UnitKind → UnitKind → Type 0
StandsBefore one other = rank_of_kind one < rank_of_kind other

pub record IsCombineRule (r : CombineRule) : Type 0 where
  pub kinds : IsInRange 1 4 (length r.kinds)
  pub in_order : EachPair StandsBefore r.kinds

pub record IsSurcharge (s : Surcharge) : Type 0 where
  pub carrier : IsCarrier s.carrier
  pub low : 1 ≤ s.low
  pub flights_in_turn : s.low ≤ s.high
  pub high : s.high ≤ 9999
  pub first : IsCalendarDay s.first
  pub last : IsCalendarDay s.last
  pub days_in_turn : s.first ≤ℤ s.last
  pub amount : s.amount ≤ 1000000

pub record IsTravelRule (r : TravelRule) : Type 0 where
  pub ranges : IfSome r.ranges (IsListOf 8 IsDayRange)
  pub by : IfSome r.by IsCalendarDay

-- a rule within its limits: those of each category that it has
pub record IsRule (r : Rule) : Type 0 where
  pub cat2 : IfSome r.cat2 IsDayTime
  pub cat3 : IfSome r.cat3 (IsListOf 8 IsDayRange)
  pub cat4 : IfSome r.cat4 IsFlightRule
  pub cat5 : IfSome r.cat5 IsDays
  pub cat6 : IfSome r.cat6 IsMinStay
  pub cat7 : IfSome r.cat7 IsDays
  pub cat8 : IfSome r.cat8 IsStopRule
  pub cat9 : IfSome r.cat9 IsTransferRule
  pub cat10 : IfSome r.cat10 IsCombineRule
  pub cat12 : IfSome r.cat12 (IsListOf 8 IsSurcharge)
  pub cat14 : IfSome r.cat14 IsTravelRule
