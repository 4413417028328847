-- Each flight beside the next: what the law says of connections by recursion, of the list of these pairs.
use Rattle.std.proofs.Common.{◌≡◌, ℕ, ◌+◌, ◌-◌, ◌≤◌, List, [], ◌∷◌, Bool, true, false, cond, refl, ◌∙◌, ap, arith, drop, length, suc}
use Rattle.std.specs.List.{zip, count_by}
use Rattle.std.proofs.lemmas.List.Sums.{sum_by-cons}
use Rattle.fare_law.specs.declared.flights.Flight.{Flight}
use Rattle.fare_law.specs.Parts.{is_stopover, stopovers, transfers}

pub stopovers_paired : (fs : List Flight) → count_by (λ (p : Flight × Flight). is_stopover p.0 p.1) (zip fs (drop 1 fs)) ≡ stopovers fs
stopovers_paired [] = refl
stopovers_paired (f ∷ []) = refl
stopovers_paired (f ∷ g ∷ gs) =
    sum_by-cons (λ (p : Flight × Flight). cond (is_stopover p.0 p.1) 1 0) (f, g) (zip (g ∷ gs) gs) ∙ ap (λ n. cond (is_stopover f g) 1 0 + n) (stopovers_paired (g ∷ gs))

counts_one : (b : Bool) (m n k : ℕ) → m + n ≡ k → (cond b 1 0 + m) + (cond b 0 1 + n) ≡ suc k
counts_one true m n k e = omega arith
counts_one false m n k e = omega arith

-- one connection between each two flights
pub connections_split : (fs : List Flight) → stopovers fs + transfers fs ≡ length fs - 1
connections_split [] = refl
connections_split (f ∷ []) = refl
connections_split (f ∷ g ∷ gs) =
    let one : (cond (is_stopover f g) 1 0 + stopovers (g ∷ gs)) + (cond (is_stopover f g) 0 1 + transfers (g ∷ gs)) ≡ suc (length gs) = counts_one (is_stopover f g) _ _ _ (connections_split (g ∷ gs) ∙ omega arith) in
    omega arith

pub stopovers_few : (fs : List Flight) → stopovers fs ≤ length fs - 1
stopovers_few fs = let e = connections_split fs in omega arith
