-- What a rule that tests nothing says of flights. Given on to the crates above.
use Rattle.std.proofs.Common.{◌≡◌, ◌+◌, ◌*◌, ◌≤◌, List, [], ◌∷◌, All, MatchBool, MatchOption, Option, None, IfSome, option_map, unwrap_or, sym, ap, ap₂, subst}
use Rattle.fare_ends.specs.Rules.{TestsNothing}
use Rattle.fare_groups.specs.Groups.{Permits, extra_of}
use Rattle.fare_law.specs.declared.flights.Flight.{Flight}
use Rattle.fare_law.specs.declared.names.Carrier.{Carrier}
use Rattle.fare_law.specs.declared.rules.Rule.{Rule}
use Rattle.fare_law.specs.declared.rules.StopRule.{StopRule}
use Rattle.fare_law.specs.Lists.{OnFirst}
use Rattle.fare_law.specs.Parts.{DayTimeHolds, stopovers, surcharges, transfers}

-- a rule that tests nothing adds nothing
pub free_extra : (rule : Rule) (fs : List Flight) → TestsNothing rule → extra_of rule fs ≡ 0
free_extra rule fs t = ap₂ (λ x y. x + y) (ap (λ o. unwrap_or (option_map (λ (c : StopRule). c.charge * stopovers fs) o) 0) t.cat8) (ap (λ o. surcharges o fs) t.cat12)

none_holds : {A : Type 0} (o : Option A) (P : A → Type 0) → o ≡ None → IfSome o P
none_holds o P e = subst (λ x. IfSome x P) (sym e) tt

-- and permits all flights of which the first is the carrier's
pub free_permits : (rule : Rule) (carrier : Carrier) (fs : List Flight) → TestsNothing rule → OnFirst (λ f. f.carrier ≡ carrier) fs → Permits rule carrier fs
free_permits rule carrier fs t first = record {
  day_time = days fs first;
  flights = none_holds rule.cat4 _ t.cat4;
  stopovers = none_holds rule.cat8 _ t.cat8;
  transfers = subst (λ o. MatchOption o (OnFirst (λ f. f.carrier ≡ carrier) fs) (λ c. (transfers fs ≤ c.max) × MatchBool c.online (All (λ f. f.carrier ≡ carrier) fs) (OnFirst (λ f. f.carrier ≡ carrier) fs))) (sym t.cat9) first;
}
  where
    days : (gs : List Flight) → OnFirst (λ f. f.carrier ≡ carrier) gs → OnFirst (DayTimeHolds rule) gs
    days [] h = absurd h
    days (g ∷ gs) h = none_holds rule.cat2 _ t.cat2
