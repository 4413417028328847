-- The value of characters in places, one place after another.
use Rattle.std.proofs.Common.{◌≡◌, ℕ, zero, suc, ◌+◌, ◌*◌, ◌-◌, ◌^◌, ◌≤◌, ◌<◌, List, [], ◌∷◌, drop, slice_get, option_map, unwrap_or, refl, ap, subst, arith, pow-suc}
use Rattle.std.proofs.Math.Nat.{pow-le-pow_right}
use Rattle.fare_law.specs.Codes.{character_value, in_places}

-- the value at a place, and those of the places after it
places_at : (n p : ℕ) (cs : List ℕ) → in_places (suc n) (drop p cs) ≡ unwrap_or (option_map character_value (slice_get cs p)) 0 * 37 ^ n + in_places n (drop (suc p) cs)
places_at zero zero [] = refl
places_at (suc n) zero [] = omega arith
places_at n zero (c ∷ cs) = refl
places_at zero (suc p) [] = refl
places_at (suc n) (suc p) [] = omega arith
places_at n (suc p) (c ∷ cs) = places_at n p cs

pub place_added : (number value p : ℕ) (cs : List ℕ) (whole : ℕ) → p < 8 → value ≡ unwrap_or (option_map character_value (slice_get cs p)) 0 → number * 37 ^ (8 - p) + in_places (8 - p) (drop p cs) ≡ whole
    → (number * 37 + value) * 37 ^ (8 - (p + 1)) + in_places (8 - (p + 1)) (drop (p + 1) cs) ≡ whole
place_added number value p cs whole lt e h = subst (λ z. (number * 37 + value) * 37 ^ (8 - z) + in_places (8 - z) (drop z cs) ≡ whole) same (step (8 - suc p) (subst (λ z. number * 37 ^ z + in_places z (drop p cs) ≡ whole) left h))
  where
    same : suc p ≡ p + 1
    same = omega arith

    left : 8 - p ≡ suc (8 - suc p)
    left = omega arith

    step : (m : ℕ) → number * 37 ^ suc m + in_places (suc m) (drop p cs) ≡ whole → (number * 37 + value) * 37 ^ m + in_places m (drop (suc p) cs) ≡ whole
    step m k =
        let a : number * 37 ^ suc m ≡ number * (37 ^ m * 37) = ap (λ z. number * z) (pow-suc 37 m) in
        let b = places_at m p cs in
        let d : value * 37 ^ m ≡ unwrap_or (option_map character_value (slice_get cs p)) 0 * 37 ^ m = ap (λ z. z * 37 ^ m) e in
        omega arith

pub place_bound : (number value p : ℕ) → number + 6 ≤ 6 * 37 ^ p → value ≤ 201 → number * 37 + value + 6 ≤ 6 * 37 ^ (p + 1)
place_bound number value p h k = subst (λ z. number * 37 + value + 6 ≤ 6 * 37 ^ z) same (step (pow-suc 37 p))
  where
    same : suc p ≡ p + 1
    same = omega arith

    step : 37 ^ suc p ≡ 37 ^ p * 37 → number * 37 + value + 6 ≤ 6 * 37 ^ suc p
    step e = omega arith

pub place_fits : (number p : ℕ) → p < 8 → number + 6 ≤ 6 * 37 ^ p → number * 37 + 201 < 2 ^ 64
place_fits number p lt h = let m : 37 ^ p ≤ 37 ^ 7 = pow-le-pow_right {n = 37} (omega arith) {i = p} {j = 7} (omega arith) in omega arith
