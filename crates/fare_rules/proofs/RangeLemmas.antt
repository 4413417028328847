-- Demands of rules, and those that two demands meet in, stay in their ranges. Given on to the crates above.
use Rattle.std.proofs.Common.{IfSome, ◌≡◌, ℕ, ℤ, pos, ◌≤◌, ◌+ℤ◌, Bool, true, false, cond, Option, Some, None, sym, subst, ◌-◌, ◌%◌, arith}
use Rattle.std.specs.Int.{int_max, int_min}
use Rattle.std.proofs.lemmas.Int.{ints}
use Rattle.std.proofs.lemmas.Nat.{and_le_l}
use Rattle.fare_law.specs.declared.rules.CombineRule.{CombineRule}
use Rattle.fare_law.specs.declared.rules.MinStay.{MinStay}
use Rattle.fare_law.specs.declared.rules.Partners.{Partners}
use Rattle.fare_law.specs.declared.rules.Partners.TheVariants.{Any, SameCarrier, SameRule}
use Rattle.fare_law.specs.declared.rules.Rule.{Rule}
use Rattle.fare_law.specs.declared.rules.TravelRule.{TravelRule}
use Rattle.fare_law.specs.Days.{weekday, first_sunday_after, IsCalendarDay}
use Rattle.fare_law.specs.RuleLimits.{IsRule, IsTravelRule}
use Rattle.fare_rules.specs.declared.demand.UnitDemand.{UnitDemand}
use Rattle.fare_rules.specs.Demands.{later_of, earlier_of, least_stay, greatest_stay, by_day, kinds_of, partner_number, partner_of, demand_of, met}
use Rattle.fare_rules.specs.Ranges.{IsDayWithin, IsStoredDay, StaysInRange, DemandInRange}
use Rattle.fare_rules.proofs.KindLemmas.{kinds_within}

max_within : (x y : ℤ) → IsDayWithin (pos 100000) x → IsDayWithin (pos 100000) y → IsDayWithin (pos 100000) (int_max x y)
max_within x y h k = (grind (arith, ints), grind (arith, ints))

min_within : (x y : ℤ) → IsDayWithin (pos 100000) x → IsDayWithin (pos 100000) y → IsDayWithin (pos 100000) (int_min x y)
min_within x y h k = (grind (arith, ints), grind (arith, ints))

within_some : (x : ℤ) → IsDayWithin (pos 100000) x → IsStoredDay (Some x)
within_some x h = h

none_within : IsStoredDay None
none_within = tt

stay_days : (first : ℤ) (n : ℕ) → IsDayWithin (pos 99000) first → n ≤ 365 → IsDayWithin (pos 100000) (first +ℤ pos n)
stay_days first n f h = (omega (arith, ints), omega (arith, ints))

sunday_days : (first : ℤ) → IsDayWithin (pos 99000) first → IsDayWithin (pos 100000) (first_sunday_after first)
unfolding first_sunday_after
sunday_days first f = stay_days first (7 - weekday first % 7) f (omega arith)

later_if : (s : Bool) (x y : ℤ) → IsDayWithin (pos 100000) x → IsDayWithin (pos 100000) y → IsDayWithin (pos 100000) (cond s (int_max x y) x)
later_if true x y h k = max_within x y h k
later_if false x y h k = h

least_stay_within : (c : Option MinStay) (first : ℤ) → IsDayWithin (pos 99000) first → IfSome c (λ c. c.days ≤ 365) → IsStoredDay (least_stay c first)
least_stay_within None first f h = none_within
least_stay_within (Some c) first f h = within_some _ (later_if c.sunday (first +ℤ pos c.days) (first_sunday_after first) (stay_days first c.days f h) (sunday_days first f))

greatest_stay_within : (c : Option ℕ) (first : ℤ) → IsDayWithin (pos 99000) first → IfSome c (λ n. n ≤ 365) → IsStoredDay (greatest_stay c first)
greatest_stay_within None first f h = none_within
greatest_stay_within (Some n) first f h = within_some (first +ℤ pos n) (stay_days first n f h)

later_within : (a b : Option ℤ) → IsStoredDay a → IsStoredDay b → IsStoredDay (later_of a b)
later_within None b h k = k
later_within (Some x) None h k = h
later_within (Some x) (Some y) h k = within_some (int_max x y) (max_within x y h k)

earlier_within : (a b : Option ℤ) → IsStoredDay a → IsStoredDay b → IsStoredDay (earlier_of a b)
earlier_within None b h k = k
earlier_within (Some x) None h k = h
earlier_within (Some x) (Some y) h k = within_some (int_min x y) (min_within x y h k)

-- a rule within its limits
by_stored : (by : Option ℤ) → IfSome by IsCalendarDay → IsStoredDay by
by_stored None h = tt
by_stored (Some day) h = (omega (arith, ints, h.0), omega (arith, ints, h.1))

travel_stored : (c : Option TravelRule) → IfSome c IsTravelRule → IsStoredDay (by_day c)
travel_stored None h = tt
travel_stored (Some c) h = by_stored c.by h.by

pub rule_stays : (r : Rule) → IsRule r → StaysInRange r
rule_stays r h = record { least = h.cat6; greatest = h.cat7; by = travel_stored r.cat14 h.cat14 }

partner_within : (c : Option CombineRule) → partner_of c ≤ 2
partner_within None = omega arith
partner_within (Some c) = number_within c.partners
  where
    number_within : (p : Partners) → partner_number p ≤ 2
    number_within Any = omega arith
    number_within SameCarrier = omega arith
    number_within SameRule = omega arith

pub demand_within : (r : Rule) (first : ℤ) → IsDayWithin (pos 99000) first → StaysInRange r → DemandInRange (demand_of r first)
demand_within r first f h = record {
  least = least_stay_within r.cat6 first f h.least;
  greatest = greatest_stay_within r.cat7 first f h.greatest;
  by = h.by;
  kinds = kinds_within r.cat10;
  partner = partner_within r.cat10;
}

pub met_within : (d e : UnitDemand) → DemandInRange d → DemandInRange e → DemandInRange (met d e)
met_within d e h k = record {
  least = later_within d.min_return e.min_return h.least k.least;
  greatest = earlier_within d.max_return e.max_return h.greatest k.greatest;
  by = earlier_within d.by e.by h.by k.by;
  kinds = omega (arith, and_le_l d.kinds e.kinds, h.kinds);
  partner = omega (arith, h.partner, k.partner);
}

-- the same, of the fields that calls gave
pub fields_within : (r : Rule) (first : ℤ) (least greatest by : Option ℤ) (kinds partner : ℕ)
    → least ≡ least_stay r.cat6 first → greatest ≡ greatest_stay r.cat7 first → by ≡ by_day r.cat14 → kinds ≡ kinds_of r.cat10 → partner ≡ partner_of r.cat10
    → IsDayWithin (pos 99000) first → StaysInRange r
    → DemandInRange (record { min_return = least; max_return = greatest; by = by; kinds = kinds; partner = partner })
fields_within r first least greatest by kinds partner a b c d e f h =
    let same : ◌≡◌ {A = UnitDemand} (record { min_return = least; max_return = greatest; by = by; kinds = kinds; partner = partner }) (demand_of r first) =
    λ i. record { min_return = a i; max_return = b i; by = c i; kinds = d i; partner = e i } in
    subst (λ (x : UnitDemand). DemandInRange x) (sym same) (demand_within r first f h)
