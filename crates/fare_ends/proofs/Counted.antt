-- Stopovers, transfers and charges of flights, and of those with which they begin and end. Given on to the crates above.
use Rattle.std.proofs.Common.{◌≡◌, ℕ, ◌+◌, ◌*◌, ◌≤◌, cond, List, [], ◌∷◌, ◌++◌, All, Option, Some, None, option_map, unwrap_or, sum_by, refl, arith}
use Rattle.std.proofs.Math.Nat.{mul-le-mul_left}
use Rattle.std.proofs.lemmas.List.Elements.{All-cons, All-head, All-nil, All-tail}
use Rattle.std.proofs.lemmas.List.Sums.{sum_by-append}
use Rattle.fare_law.specs.declared.flights.Flight.{Flight}
use Rattle.fare_law.specs.declared.rules.StopRule.{StopRule}
use Rattle.fare_law.specs.declared.rules.Surcharge.{Surcharge}
use Rattle.fare_law.specs.Lists.{EachPair, OnFirst}
use Rattle.fare_law.specs.Parts.{fits, stopover_charge, stopovers, surcharges, transfers}
use Rattle.fare_ends.specs.Halves.{AddsParts}

pub all_left : {X : Type 0} (P : X → Type 0) (xs ys : List X) → All P (xs ++ ys) → All P xs
all_left P [] ys h = All-nil P
all_left P (x ∷ xs) ys h = All-cons P x xs (All-head P x (xs ++ ys) h) (all_left P xs ys (All-tail P x (xs ++ ys) h))

pub all_right : {X : Type 0} (P : X → Type 0) (xs ys : List X) → All P (xs ++ ys) → All P ys
all_right P [] ys h = h
all_right P (x ∷ xs) ys h = all_right P xs ys (All-tail P x (xs ++ ys) h)

pub pairs_left : {X : Type 0} (R : X → X → Type 0) (xs ys : List X) → EachPair R (xs ++ ys) → EachPair R xs
pairs_left R [] ys h = tt
pairs_left R (x ∷ []) ys h = tt
pairs_left R (x ∷ y ∷ xs) ys h = (h.0, pairs_left R (y ∷ xs) ys h.1)

pub pairs_right : {X : Type 0} (R : X → X → Type 0) (xs ys : List X) → EachPair R (xs ++ ys) → EachPair R ys
pairs_right R [] ys h = h
pairs_right R (x ∷ []) [] h = tt
pairs_right R (x ∷ []) (y ∷ ys) h = h.1
pairs_right R (x ∷ y ∷ xs) ys h = pairs_right R (y ∷ xs) ys h.1

pub first_left : {X : Type 0} (P : X → Type 0) (xs ys : List X) → (xs ≡ [] → ⊥) → OnFirst P (xs ++ ys) → OnFirst P xs
first_left P [] ys some h = absurd (some refl)
first_left P (x ∷ xs) ys some h = h

-- flights have the stopovers of those with which they begin and end, and one more where the two don't connect
pub stopovers_parts : (fs gs : List Flight) → (stopovers fs + stopovers gs) ≤ stopovers (fs ++ gs)
stopovers_parts [] gs = omega arith
stopovers_parts (f ∷ []) [] = omega arith
stopovers_parts (f ∷ []) (g ∷ gs) = omega arith
stopovers_parts (f ∷ e ∷ fs) gs = let more = stopovers_parts (e ∷ fs) gs in omega (arith, more)

-- and their transfers
pub transfers_parts : (fs gs : List Flight) → (transfers fs + transfers gs) ≤ transfers (fs ++ gs)
transfers_parts [] gs = omega arith
transfers_parts (f ∷ []) [] = omega arith
transfers_parts (f ∷ []) (g ∷ gs) = omega arith
transfers_parts (f ∷ e ∷ fs) gs = let more = transfers_parts (e ∷ fs) gs in omega (arith, more)

times_more : (c m n k : ℕ) → (m + n) ≤ k → (c * m + c * n) ≤ c * k
times_more c m n k h = let all = mul-le-mul_left c h in omega (arith, all)

stops_charged : (o : Option StopRule) (fs gs : List Flight)
    → (unwrap_or (option_map (λ c. c.charge * stopovers fs) o) 0 + unwrap_or (option_map (λ c. c.charge * stopovers gs) o) 0) ≤ unwrap_or (option_map (λ c. c.charge * stopovers (fs ++ gs)) o) 0
stops_charged None fs gs = omega arith
stops_charged (Some c) fs gs = times_more c.charge (stopovers fs) (stopovers gs) (stopovers (fs ++ gs)) (stopovers_parts fs gs)

-- the surcharges of flights are a sum
pub surcharges_parts : (o : Option (List Surcharge)) (fs gs : List Flight) → surcharges o (fs ++ gs) ≡ surcharges o fs + surcharges o gs
surcharges_parts None fs gs = refl
surcharges_parts (Some ss) fs gs = sum_by-append (λ f. sum_by (λ s. cond (fits s f) s.amount 0) ss) fs gs

pub adds_parts : AddsParts
adds_parts rule fs gs = sums (stopover_charge rule fs) (surcharges rule.cat12 fs) (stopover_charge rule gs) (surcharges rule.cat12 gs) (stopover_charge rule (fs ++ gs)) (surcharges rule.cat12 (fs ++ gs)) (stops_charged rule.cat8 fs gs) (surcharges_parts rule.cat12 fs gs)
  where
    sums : (a b c d e f : ℕ) → (a + c) ≤ e → f ≡ b + d → ((a + b) + (c + d)) ≤ e + f
    sums a b c d e f h k = omega (arith, h, k)
