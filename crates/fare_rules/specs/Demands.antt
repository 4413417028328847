-- What a fare's rule demands of its unit: the days of return, the last day, the kinds, the partners.
use Rattle.std.specs.Prelude.{ℕ, ℤ, Bool, ◌==◌, pos, max, ◌+◌, ◌+ℤ◌, ◌≤ℤ◌, List, IfSome, Option, Some, None, cond, bit_and}
use Rattle.std.specs.Int.{int_max, int_min, bit_at}
use Rattle.std.specs.List.{list_any}
use Rattle.fare_law.specs.declared.rules.CombineRule.{CombineRule}
use Rattle.fare_law.specs.declared.rules.MinStay.{MinStay}
use Rattle.fare_law.specs.declared.rules.TravelRule.{TravelRule}
use Rattle.fare_law.specs.declared.rules.Partners.{Partners}
use Rattle.fare_law.specs.declared.rules.Partners.TheVariants.{Any, SameCarrier, SameRule}
use Rattle.fare_law.specs.declared.rules.UnitKind.{UnitKind}
use Rattle.fare_law.specs.declared.rules.UnitKind.TheVariants.{OneWay, RoundTrip, OpenJaw, Circle}
use Rattle.fare_law.specs.declared.rules.Rule.{Rule}
use Rattle.fare_law.specs.Days.{first_sunday_after}
use Rattle.fare_law.specs.RuleLimits.{rank_of_kind}
use Rattle.fare_rules.specs.declared.demand.UnitDemand.{UnitDemand}

-- the day is at least the least one, where there is one
abbrev pub AtLeast : Option ℤ → ℤ → Type 0
AtLeast least day = IfSome least (λ l. l ≤ℤ day)

-- the day is at most the greatest one, where there is one
abbrev pub AtMost : Option ℤ → ℤ → Type 0
AtMost most day = IfSome most (λ m. day ≤ℤ m)

abbrev pub later_of : Option ℤ → Option ℤ → Option ℤ
later_of None other = other
later_of (Some d) None = Some d
later_of (Some d) (Some e) = Some (int_max d e)

abbrev pub earlier_of : Option ℤ → Option ℤ → Option ℤ
earlier_of None other = other
earlier_of (Some d) None = Some d
earlier_of (Some d) (Some e) = Some (int_min d e)

-- the least day of return that category 6 allows
abbrev pub least_stay : Option MinStay → ℤ → Option ℤ
least_stay None first = None
least_stay (Some c) first = Some (cond c.sunday (int_max (first +ℤ pos c.days) (first_sunday_after first)) (first +ℤ pos c.days))

abbrev pub greatest_stay : Option ℕ → ℤ → Option ℤ
greatest_stay None first = None
greatest_stay (Some n) first = Some (first +ℤ pos n)

abbrev pub by_day : Option TravelRule → Option ℤ
by_day None = None
by_day (Some c) = c.by

-- whether a sum of kinds has this one
abbrev pub has_kind : ℕ → UnitKind → Bool
has_kind kinds kind = bit_at kinds (rank_of_kind kind) == 1

abbrev pub same_kind : UnitKind → UnitKind → Bool
same_kind k l = rank_of_kind k == rank_of_kind l

abbrev pub lists_kind : List UnitKind → UnitKind → Bool
lists_kind ks k = list_any (same_kind k) ks

-- one way 1, round trip 2, open jaw 4, circle 8
abbrev pub kinds_of : Option CombineRule → ℕ
kinds_of None = 15
kinds_of (Some c) = cond (lists_kind c.kinds OneWay) 1 0 + cond (lists_kind c.kinds RoundTrip) 2 0 + cond (lists_kind c.kinds OpenJaw) 4 0 + cond (lists_kind c.kinds Circle) 8 0

abbrev pub partner_number : Partners → ℕ
partner_number Any = 0
partner_number SameCarrier = 1
partner_number SameRule = 2

abbrev pub partner_of : Option CombineRule → ℕ
partner_of None = 0
partner_of (Some c) = partner_number c.partners

-- what a rule asks of a unit whose first flight departs on this day
abbrev pub demand_of : Rule → ℤ → UnitDemand
demand_of r first = record {
  min_return = least_stay r.cat6 first;
  max_return = greatest_stay r.cat7 first;
  by = by_day r.cat14;
  kinds = kinds_of r.cat10;
  partner = partner_of r.cat10;
}

-- two demands meet in the greater least day, the smaller greatest day, the smaller by, the common kinds and the greater partner
abbrev pub met : UnitDemand → UnitDemand → UnitDemand
met d e = record {
  min_return = later_of d.min_return e.min_return;
  max_return = earlier_of d.max_return e.max_return;
  by = earlier_of d.by e.by;
  kinds = bit_and d.kinds e.kinds;
  partner = max d.partner e.partner;
}

-- the unit may return on this day
abbrev pub MayReturn : UnitDemand → ℤ → Type 0
MayReturn d day = AtLeast d.min_return day × AtMost d.max_return day
