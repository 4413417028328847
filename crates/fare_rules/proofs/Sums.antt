-- Bounds on the sums of category 12.
use Rattle.std.proofs.Common.{ℕ, ◌*◌, ◌≤◌, List, Bool, true, false, cond, arith, length, get_or}
use Rattle.std.specs.List.{All, sum_by}
use Rattle.std.proofs.lemmas.List.Sums.{sum_by-le}
use Rattle.fare_law.specs.declared.flights.Flight.{Flight}
use Rattle.fare_law.specs.declared.rules.Surcharge.{Surcharge}
use Rattle.fare_law.specs.Parts.{fits}
use Rattle.fare_law.specs.declared.limits.TheConstants.{MOST_FLIGHTS_OF_A_COMPONENT}
use Rattle.fare_rules.specs.Limits.{IsLow}

cond_low : (b : Bool) (n m : ℕ) → n ≤ m → cond b n 0 ≤ m
cond_low true n m h = h
cond_low false n m h = omega arith

pub flight_low : (f : Flight) (ss : List Surcharge) → All IsLow ss → length ss ≤ 8 → sum_by (λ s. cond (fits s f) s.amount 0) ss ≤ 8000000
flight_low f ss low few =
    let h : sum_by (λ s. cond (fits s f) s.amount 0) ss ≤ length ss * 1000000 = sum_by-le (λ s. cond (fits s f) s.amount 0) 1000000 ss (λ k d i. cond_low _ _ _ (low k d i)) in
    omega arith

pub flights_low : (ss : List Surcharge) (fs : List Flight) → All IsLow ss → length ss ≤ 8 → length fs ≤ MOST_FLIGHTS_OF_A_COMPONENT → sum_by (λ f. sum_by (λ s. cond (fits s f) s.amount 0) ss) fs ≤ 32000000
flights_low ss fs low few few_flights =
    let h : sum_by (λ f. sum_by (λ s. cond (fits s f) s.amount 0) ss) fs ≤ length fs * 8000000 = sum_by-le (λ f. sum_by (λ s. cond (fits s f) s.amount 0) ss) 8000000 fs (λ k d i. flight_low (get_or fs k d) ss low few) in
    omega arith
