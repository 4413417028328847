-- Flights and rules within their limits meet the conditions of the calls, and cost little beside the fare.
use Rattle.std.proofs.Common.{ℕ, ◌*◌, ◌≤◌, List, [], ◌∷◌, length, Option, Some, None, IfSome, unwrap_or, option_map, arith}
use Rattle.std.specs.List.{All}
use Rattle.std.proofs.lemmas.List.Elements.{All-nil, All-cons}
use Rattle.std.proofs.lemmas.Nat.{mul-le}
use Rattle.fare_law.specs.Limits.{IsFlight}
use Rattle.fare_law.specs.Lists.{Each}
use Rattle.fare_law.specs.Parts.{stopovers, stopover_charge, surcharges}
use Rattle.fare_law.specs.RuleLimits.{IsListOf, IsRule, IsStopRule, IsSurcharge}
use Rattle.fare_law.specs.declared.flights.Flight.{Flight}
use Rattle.fare_law.specs.declared.rules.Rule.{Rule}
use Rattle.fare_law.specs.declared.rules.StopRule.{StopRule}
use Rattle.fare_law.specs.declared.rules.Surcharge.{Surcharge}
use Rattle.fare_law.specs.declared.limits.TheConstants.{MOST_FLIGHTS_OF_A_COMPONENT}
use Rattle.fare_rules.specs.Limits.{HasLowCharge, HasLowSurcharges, IsTimed, IsLow}
use Rattle.fare_rules.proofs.Neighbours.{stopovers_few}
use Rattle.fare_rules.proofs.Sums.{flights_low}

pub all_low : (ss : List Surcharge) → Each IsSurcharge ss → All IsLow ss
all_low [] h = All-nil IsLow
all_low (s ∷ ss) h = All-cons IsLow s ss h.0.amount (all_low ss h.1)

low_charge : (o : Option StopRule) → IfSome o IsStopRule → IfSome o (λ c. c.charge ≤ 1000000)
low_charge None h = tt
low_charge (Some c) h = h.charge

low_surcharges : (o : Option (List Surcharge)) → IfSome o (IsListOf 8 IsSurcharge) → IfSome o (All IsLow)
low_surcharges None h = tt
low_surcharges (Some ss) h = all_low ss h.each

pub timed : (f : Flight) → IsFlight f → IsTimed f
timed f h = (h.dep, h.arr)

pub charge_met : (r : Rule) → IsRule r → HasLowCharge r
charge_met r h = low_charge r.cat8 h.cat8

pub surcharges_met : (r : Rule) → IsRule r → HasLowSurcharges r
surcharges_met r h = low_surcharges r.cat12 h.cat12

at_most_three : (charge n : ℕ) → charge ≤ 1000000 → n ≤ 3 → charge * n ≤ 3000000
at_most_three charge n low few =
    let h : charge * n ≤ 1000000 * 3 = mul-le charge n 1000000 3 low few in
    omega arith

charge_low : (o : Option StopRule) (n : ℕ) → IfSome o IsStopRule → n ≤ 3 → unwrap_or (option_map (λ c. c.charge * n) o) 0 ≤ 3000000
charge_low None n h few = omega arith
charge_low (Some c) n h few = at_most_three c.charge n h.charge few

pub charged : (r : Rule) (fs : List Flight) → IsRule r → length fs ≤ MOST_FLIGHTS_OF_A_COMPONENT → stopover_charge r fs ≤ 3000000
charged r fs h few = charge_low r.cat8 (stopovers fs) h.cat8 (let few_stops = stopovers_few fs in omega arith)

amounts_low : (o : Option (List Surcharge)) (fs : List Flight) → IfSome o (IsListOf 8 IsSurcharge) → length fs ≤ MOST_FLIGHTS_OF_A_COMPONENT → surcharges o fs ≤ 32000000
amounts_low None fs h few = omega arith
amounts_low (Some ss) fs h few = flights_low ss fs (all_low ss h.each) h.count.1 few

pub surcharged : (r : Rule) (fs : List Flight) → IsRule r → length fs ≤ MOST_FLIGHTS_OF_A_COMPONENT → surcharges r.cat12 fs ≤ 32000000
surcharged r fs h few = amounts_low r.cat12 fs h.cat12 few

pub ruleset limits_met = (timed, charge_met, surcharges_met, charged, surcharged)
