-- What the bits of a mask tell of the seats that were compared with a party, for `at_least`. This file is given on to the crates above.
use Rattle.std.proofs.Common.{◌≡◌, ◌↔◌, ℕ, ◌<◌, ◌≤◌, ◌^◌, ◌/◌, ◌%◌, List, Bool, true, false, cond, map, replicate, length, get_or, leb, refl, ap, sym, ◌∙◌, subst, arith, w8}
use Rattle.std.specs.Int.{IsBitSet}
use Rattle.std.specs.Simd.Lanes.{zip2, mask_l, top}
use Rattle.std.proofs.lemmas.Bool.{leb-true, le-leb}
use Rattle.std.proofs.lemmas.List.{length-map, get_or-map}
use Rattle.std.proofs.lemmas.Nat.{bit_set_by_shift, and_mask}
use Rattle.std.proofs.lemmas.Simd.{tops_compared, zip2_splat_left, bit_mask_l, mask_l-lt, mask_l-mod}

-- the mask of n seats that are compared with a party
abbrev pub compared : ℕ → List ℕ → ℕ → ℕ
compared n seats party = mask_l (map (top 7) (zip2 (λ a b. cond (leb a b) 255 0) (replicate n party) seats)) % 2 ^ 64

compared_is : (n : ℕ) (seats : List ℕ) (party : ℕ) → length seats ≡ n → n ≤ 64 → compared n seats party ≡ mask_l (map (leb party) seats)
compared_is n seats party e few =
    ap (λ ms. mask_l ms % 2 ^ 64) (tops_compared w8 leb (replicate n party) seats ∙ zip2_splat_left leb party n seats e)
    ∙ mask_l-mod (map (leb party) seats) 64 (omega (arith, length-map seats (leb party)))

pub compared_fits : (n : ℕ) (seats : List ℕ) (party : ℕ) → length seats ≡ n → n ≤ 64 → compared n seats party < 2 ^ n
compared_fits n seats party e few =
    subst (λ (m : ℕ). m < 2 ^ n) (sym (compared_is n seats party e few))
    (subst (λ (k : ℕ). mask_l (map (leb party) seats) < 2 ^ k) (length-map seats (leb party) ∙ e) (mask_l-lt (map (leb party) seats)))

one_true : (b : Bool) → ◌≡◌ {A = ℕ} (cond b 1 0) 1 → b ≡ true
one_true true h = refl
one_true false h = cc

-- a bit of a mask is its lane
bit_tells : (lanes : List Bool) (i : ℕ) → IsBitSet (mask_l lanes) i ↔ (get_or lanes i false ≡ true)
bit_tells lanes i =
    let low = and_mask (mask_l lanes / 2 ^ i) 1 ∙ bit_mask_l lanes i in (
      λ s. one_true (get_or lanes i false) (sym low ∙ (bit_set_by_shift (mask_l lanes) i).1 s),
      λ h. (bit_set_by_shift (mask_l lanes) i).0 (low ∙ ap (λ b. cond b 1 0) h),
    )

pub compared_tells : (n : ℕ) (seats : List ℕ) (party i : ℕ) → length seats ≡ n → n ≤ 64 → i < n
    → IsBitSet (compared n seats party) i ↔ (party ≤ get_or seats i 0)
compared_tells n seats party i e few l =
    let here : i < length seats = omega arith in
    let lane = get_or-map (leb party) seats i 0 false here in
    let bit = bit_tells (map (leb party) seats) i in
    subst (λ (m : ℕ). IsBitSet m i ↔ (party ≤ get_or seats i 0)) (sym (compared_is n seats party e few))
    (λ s. leb-true party (get_or seats i 0) (sym lane ∙ bit.0 s), λ h. bit.1 (lane ∙ le-leb party (get_or seats i 0) h))
