-- The ranges of the numbers of rules and of demands.
use Rattle.std.specs.Prelude.{ℤ, pos, ◌≤◌, ◌≤ℤ◌, Option, IfSome}
use Rattle.fare_law.specs.declared.rules.Rule.{Rule}
use Rattle.fare_rules.specs.declared.demand.UnitDemand.{UnitDemand}
use Rattle.fare_rules.specs.Demands.{by_day}

-- the day lies from 0 to the greatest one
abbrev pub IsDayWithin : ℤ → ℤ → Type 0
IsDayWithin most day = (pos 0 ≤ℤ day) × (day ≤ℤ most)

-- the day lies from 0 to 100,000, where there is one
abbrev pub IsStoredDay : Option ℤ → Type 0
IsStoredDay day = IfSome day (IsDayWithin (pos 100000))

-- Categories 6 and 7 of the rule ask for stays of at most 365 days, and its last day lies from 0 to 100,000.
pub record StaysInRange (r : Rule) : Type 0 where
  pub least : IfSome r.cat6 (λ c. c.days ≤ 365)
  pub greatest : IfSome r.cat7 (λ n. n ≤ 365)
  pub by : IsStoredDay (by_day r.cat14)

-- The numbers that a demand may have.
pub record DemandInRange (d : UnitDemand) : Type 0 where
  pub least : IsStoredDay d.min_return
  pub greatest : IsStoredDay d.max_return
  pub by : IsStoredDay d.by
  pub kinds : d.kinds ≤ 15
  pub partner : d.partner ≤ 2
