-- What the categories let in and keep out.
use Rattle.std.proofs.Common.{◌≡◌, ◌≢◌, ℕ, zero, suc, pos, true, false, ◌∷◌, List, [], ◌<◌, length, get_or, Any, refl, sym, ap, subst, arith}
use Rattle.std.proofs.lemmas.Int.{ints}
use Rattle.fare_law.specs.declared.rules.FlightRange.{FlightRange}
use Rattle.fare_law.specs.declared.rules.UnitKind.TheVariants.{OneWay}
use Rattle.fare_law.specs.Lists.{Each}
use Rattle.fare_law.specs.Parts.{FlightsHold, Lists, TransfersHold}
use Rattle.fare_law.specs.Units.{SeasonHolds, TravelHolds, UnitLawful}
use Rattle.worked_cases.specs.Cases.{after_minutes, first_flight, out_flight, with_sunday}
use Rattle.worked_cases.specs.Makers.{qx}
use Rattle.worked_cases.specs.Rules.{bx, by_bx, changes_at_most, from_to, in_season, lists_flights, there_alone, travels_within}

none_of : {X : Type 0} (P : X → Type 0) (xs : List X) → Each (λ x. P x → ⊥) xs → Any P xs → ⊥
none_of P [] each (k, x, lt, at, p) = omega (arith, lt)
none_of P (y ∷ ys) each (zero, x, lt, at, p) = each.0 (subst P (sym at) p)
none_of P (y ∷ ys) each (suc k, x, lt, at, p) = none_of P ys each.1 (k, x, omega (arith, lt), at, p)

bx_qx : bx ≢ qx
bx_qx e = omega (arith, ap (λ c. get_or c.0 0 0) e)

of_qx : ℕ → ℕ → FlightRange
of_qx low high = record { carrier = qx; low = low; high = high }

pub season_first : SeasonHolds in_season (pos 22341)
season_first = (0, from_to 22341 22348, omega arith, refl, (omega (arith, ints), omega (arith, ints)))

pub season_last : SeasonHolds in_season (pos 22348)
season_last = (0, from_to 22341 22348, omega arith, refl, (omega (arith, ints), omega (arith, ints)))

pub season_second : SeasonHolds in_season (pos 22370)
season_second = (1, from_to 22370 22399, omega arith, refl, (omega (arith, ints), omega (arith, ints)))

pub travel_first : TravelHolds travels_within (pos 22341)
travel_first = (0, from_to 22341 22348, omega arith, refl, (omega (arith, ints), omega (arith, ints)))

pub travel_last : TravelHolds travels_within (pos 22399)
travel_last = (1, from_to 22370 22399, omega arith, refl, (omega (arith, ints), omega (arith, ints)))

pub not_online : TransfersHold (changes_at_most 1 true) qx (first_flight ∷ by_bx (after_minutes 60) ∷ []) → ⊥
not_online h = bx_qx (h.1 1 first_flight (omega arith))

pub kept_out : FlightsHold (lists_flights false 100 101) (out_flight ∷ []) → ⊥
kept_out h = h 0 out_flight (omega arith) 0 (of_qx 100 101) (omega arith) (refl, omega arith, omega arith)

pub not_let_in : FlightsHold (lists_flights true 102 200) (out_flight ∷ []) → ⊥
not_let_in h = none_of (λ range. Lists range out_flight) (record { carrier = qx; low = 102; high = 200 } ∷ []) ((λ l. omega (arith, l.1)), tt) (h 0 out_flight (omega arith))

pub other_carrier : FlightsHold (lists_flights true 100 101) (by_bx out_flight ∷ []) → ⊥
other_carrier h = none_of (λ range. Lists range (by_bx out_flight)) (record { carrier = qx; low = 100; high = 101 } ∷ []) ((λ l. bx_qx l.0), tt) (h 0 out_flight (omega arith))

pub one_alone : FlightsHold (lists_flights true 1 1) (first_flight ∷ after_minutes 60 ∷ []) → ⊥
one_alone h = none_of (λ range. Lists range (after_minutes 60)) (record { carrier = qx; low = 1; high = 1 } ∷ []) ((λ l. omega (arith, l.2)), tt) (h 1 first_flight (omega arith))

pub stay_alone : UnitLawful (there_alone with_sunday ∷ [])
stay_alone = (OneWay, (refl, refl), (record { stands = tt; season = tt; advance = tt; travel = tt; by = tt; min_stay = λ h. absurd (h refl); max_stay = λ h. tt; kind_allowed = tt; partners = tt }, tt))
