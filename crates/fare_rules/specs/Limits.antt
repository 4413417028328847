-- How late a flight may be, and how much a rule may ask, for sums that fit.
use Rattle.std.specs.Prelude.{◌≤◌, IfSome, All}
use Rattle.fare_law.specs.Days.{IsInstant}
use Rattle.fare_law.specs.declared.flights.Flight.{Flight}
use Rattle.fare_law.specs.declared.rules.Rule.{Rule}
use Rattle.fare_law.specs.declared.rules.Surcharge.{Surcharge}

-- it departs and arrives at instants, in minutes since 1970-01-01 00:00
abbrev pub IsTimed : Flight → Type 0
IsTimed f = IsInstant f.dep × IsInstant f.arr

-- a stopover is charged at most 1,000,000
abbrev pub HasLowCharge : Rule → Type 0
HasLowCharge r = IfSome r.cat8 (λ c. c.charge ≤ 1000000)

abbrev pub IsLow : Surcharge → Type 0
IsLow s = s.amount ≤ 1000000

-- each surcharge is at most 1,000,000
abbrev pub HasLowSurcharges : Rule → Type 0
HasLowSurcharges r = IfSome r.cat12 (All IsLow)
