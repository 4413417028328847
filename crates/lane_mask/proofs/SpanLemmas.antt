-- What lanes tell of their rows, for `lanes_between`, and one more mark, for the loops.
use Rattle.std.proofs.Common.{◌≡◌, ◌≢◌, ◌↔◌, ℕ, zero, suc, ◌+◌, ◌<◌, ◌-◌, List, [], ◌∷◌, Bool, true, false, cond, map, replicate, length, get_or, set, ℤ, pos, ◌≤ℤ◌, IsTrue, w32, to_z, of_z, FitsSigned, bit_and, arith, refl, sym, subst, get_or-set_same, get_or-set_other, inl, inr}
use Rattle.std.proofs.lemmas.Bool.{cases_eq, cases_lt}
use Rattle.std.specs.Simd.Lanes.{zip2, sel_l, top}
use Rattle.std.proofs.lemmas.Int.{ints}
use Rattle.std.specs.Prelude.{int_le}
use Rattle.lane_mask.specs.Spans.{HoldsDay, AreMarked}

-- a lane whose bits are all set
abbrev all_set : ℕ
all_set = 4294967295

-- what a comparison gives at one lane
abbrev compared : ℕ → ℕ → ℕ
compared a b = cond (int_le (to_z w32 a) (to_z w32 b)) all_set 0

-- the lanes that two comparisons and their conjunction give
abbrev pub held : ℕ → List ℤ → List ℤ → ℤ → List ℤ
held n lows highs day =
    let days = replicate n (of_z w32 day) in
    map (to_z w32) (sel_l
    (map (top 31) (zip2 bit_and (zip2 compared (map (of_z w32) lows) days) (zip2 compared days (map (of_z w32) highs))))
    (replicate n all_set) (replicate n 0))

both_set : (a b : Bool) → (to_z w32 (cond (top 31 (bit_and (cond a all_set 0) (cond b all_set 0))) all_set 0) ≢ pos 0) ↔ ((a ≡ true) × (b ≡ true))
both_set true true = (λ h. (refl, refl), λ h e. cc)
both_set true false = (λ h. absurd (h refl), λ h e. cc)
both_set false true = (λ h. absurd (h refl), λ h e. cc)
both_set false false = (λ h. absurd (h refl), λ h e. cc)

le_told : (a b : ℤ) → FitsSigned w32 a → FitsSigned w32 b → (int_le (to_z w32 (of_z w32 a)) (to_z w32 (of_z w32 b)) ≡ true) ↔ (a ≤ℤ b)
le_told a b f g = (λ h. grind (arith, ints), λ h. grind (arith, ints))

pub held_tells : (n : ℕ) (lows highs : List ℤ) (day : ℤ) (i : ℕ) → length lows ≡ n → length highs ≡ n → i < n
    → FitsSigned w32 (get_or lows i (pos 0)) → FitsSigned w32 (get_or highs i (pos 0)) → FitsSigned w32 day
    → (get_or (held n lows highs day) i (pos 0) ≢ pos 0) ↔ HoldsDay lows highs day i
held_tells zero lows highs day i e f l p q r = absurd (omega arith)
held_tells (suc n) [] highs day i e f l p q r = absurd (omega arith)
held_tells (suc n) (x ∷ xs) [] day i e f l p q r = absurd (omega arith)
held_tells (suc n) (x ∷ xs) (y ∷ ys) day zero e f l p q r =
    let low = le_told x day p r in
    let high = le_told day y r q in
    let b = both_set (int_le (to_z w32 (of_z w32 x)) (to_z w32 (of_z w32 day))) (int_le (to_z w32 (of_z w32 day)) (to_z w32 (of_z w32 y))) in
    (λ h. (low.0 (b.0 h).0, high.0 (b.0 h).1), λ h. b.1 (low.1 h.0, high.1 h.1))
held_tells (suc n) (x ∷ xs) (y ∷ ys) day (suc i) e f l p q r = held_tells n xs ys day i (omega arith) (omega arith) (omega arith) p q r

-- the same of rows that the lanes were read from, from `at` on
pub held_tells_rows : (n : ℕ) (xs ys lows highs : List ℤ) (day : ℤ) (at i : ℕ) → length xs ≡ n → length ys ≡ n → i < n
    → FitsSigned w32 (get_or xs i (pos 0)) → FitsSigned w32 (get_or ys i (pos 0)) → FitsSigned w32 day
    → get_or xs i (pos 0) ≡ get_or lows (at + i) (pos 0) → get_or ys i (pos 0) ≡ get_or highs (at + i) (pos 0)
    → (get_or (held n xs ys day) i (pos 0) ≢ pos 0) ↔ HoldsDay lows highs day (at + i)
held_tells_rows n xs ys lows highs day at i e f l p q r low high =
    let lane = get_or (held n xs ys day) i (pos 0) in
    subst (λ (x : ℤ). (lane ≢ pos 0) ↔ ((x ≤ℤ day) × (day ≤ℤ get_or highs (at + i) (pos 0)))) low
    (subst (λ (y : ℤ). (lane ≢ pos 0) ↔ ((get_or xs i (pos 0) ≤ℤ day) × (day ≤ℤ y))) high (held_tells n xs ys day i e f l p q r))

-- one more mark
pub marked_more : (lows highs : List ℤ) (day : ℤ) (marks : List Bool) (i : ℕ) (b : Bool) → i < length marks
    → (IsTrue b ↔ HoldsDay lows highs day i) → AreMarked lows highs day marks i → AreMarked lows highs day (set marks i b) (i + 1)
marked_more lows highs day marks i b here told before k l = elim (cases_eq k i) [
  | inl e ↦ subst (λ (j : ℕ). IsTrue (get_or (set marks i b) j false) ↔ HoldsDay lows highs day j) (sym e) (rw (get_or-set_same marks i b false here) told)
  | inr n ↦ rw (get_or-set_other marks i k b false n) (before k (omega arith))
]

-- a step's marks, after those of the steps before
pub marked_step : (lows highs lanes : List ℤ) (day : ℤ) (old new : List Bool) (at n : ℕ)
    → ((i : ℕ) → i < n → (get_or lanes i (pos 0) ≢ pos 0) ↔ HoldsDay lows highs day (at + i))
    → ((i : ℕ) → i < n → IsTrue (get_or new (at + i) false) ↔ (get_or lanes i (pos 0) ≢ pos 0))
    → ((i : ℕ) → i < at → get_or new i false ≡ get_or old i false)
    → AreMarked lows highs day old at → AreMarked lows highs day new (at + n)
marked_step lows highs lanes day old new at n holds marks same before k l = elim (cases_lt k at) [
  | inl m ↦ subst (λ (b : Bool). IsTrue b ↔ HoldsDay lows highs day k) (sym (same k m)) (before k m)
  | inr m ↦
      let e : at + (k - at) ≡ k = omega arith in
      let s : k - at < n = omega arith in
      let t = marks (k - at) s in
      let h = holds (k - at) s in
      let both : IsTrue (get_or new (at + (k - at)) false) ↔ HoldsDay lows highs day (at + (k - at)) = (λ b. h.0 (t.0 b), λ d. t.1 (h.1 d)) in
      subst (λ (j : ℕ). IsTrue (get_or new j false) ↔ HoldsDay lows highs day j) e both
]
