-- The open labels: the one in a slot, and how many stand below a label.
use Rattle.std.proofs.Common.{◌≡◌, ℕ, zero, suc, ◌+◌, ◌-◌, ◌≤◌, ◌<◌, ◌==◌, Bool, true, false, cond, List, [], ◌∷◌, length, take, drop, get_or, count_by, Option, Some, None, refl, sym, ap, ap₂, ◌∙◌, subst, arith}
use Rattle.std.proofs.Math.Seq.{drop-cons, take-suc}
use Rattle.std.proofs.lemmas.Bool.{ne_eqb}
use Rattle.std.proofs.lemmas.List.Sums.{sum_by-append, sum_by-cons}
use Rattle.fare_law.specs.Moves.{upto}

-- the place of the first that is set after this many others, counted from a place
abbrev pub find_open : List Bool → ℕ → ℕ → Option ℕ
find_open [] left at = None
find_open (b ∷ bs) left at = cond b (cond (left == 0) (Some at) (find_open bs (left - 1) (suc at))) (find_open bs left (suc at))

pub find_next : (bs : List Bool) (i left : ℕ) → i < length bs
    → find_open (drop i bs) left i ≡ cond (get_or bs i false) (cond (left == 0) (Some i) (find_open (drop (i + 1) bs) (left - 1) (i + 1))) (find_open (drop (i + 1) bs) left (i + 1))
find_next bs i left lt =
    ap (λ xs. find_open xs left i) (drop-cons bs i false lt)
    ∙ ap (λ n. cond (get_or bs i false) (cond (left == 0) (Some i) (find_open (drop n bs) (left - 1) n)) (find_open (drop n bs) left n)) (more i)
  where
    more : (k : ℕ) → suc k ≡ k + 1
    more k = omega arith

abbrev pub ones : List Bool → ℕ
ones bs = count_by (λ b. b) bs

pub find_true : (bs : List Bool) (l left at : ℕ) → get_or bs l false ≡ true → ones (take l bs) ≡ left → find_open bs left at ≡ Some (at + l)
find_true [] l left at t e = cc
find_true (b ∷ bs) zero left at t e = ap (λ x. cond x (cond (left == 0) (Some at) (find_open bs (left - 1) (suc at))) (find_open bs left (suc at))) t ∙ first left e
  where
    first : (n : ℕ) → ones (take zero (b ∷ bs)) ≡ n → cond (n == 0) (Some at) (find_open bs (n - 1) (suc at)) ≡ Some (at + 0)
    first n h = subst (λ k. cond (k == 0) (Some at) (find_open bs (k - 1) (suc at)) ≡ Some (at + 0)) h (ap Some (sums at))
      where
        sums : (k : ℕ) → k ≡ k + 0
        sums k = omega arith
find_true (true ∷ bs) (suc l) left at t e =
    let n : ones (take (suc l) (true ∷ bs)) ≡ 1 + ones (take l bs) = sum_by-cons (λ (b : Bool). cond b 1 0) true (take l bs) in
    ap (λ b. cond b (Some at) (find_open bs (left - 1) (suc at))) (ne_eqb left 0 (λ z. omega (arith, n, e, z)))
    ∙ find_true bs l (left - 1) (suc at) t (omega (arith, n, e)) ∙ ap Some (sums at)
  where
    sums : (k : ℕ) → suc k + l ≡ k + suc l
    sums k = omega arith
find_true (false ∷ bs) (suc l) left at t e =
    let n : ones (take (suc l) (false ∷ bs)) ≡ 0 + ones (take l bs) = sum_by-cons (λ (b : Bool). cond b 1 0) false (take l bs) in
    find_true bs l left (suc at) t (omega (arith, n, e)) ∙ ap Some (sums at)
  where
    sums : (k : ℕ) → suc k + l ≡ k + suc l
    sums k = omega arith

-- where the first n + 1 tell of the labels 1 to n what P does, as many are set as labels pass
pub count_open : (bs : List Bool) (P : ℕ → Bool) (n : ℕ) → get_or bs 0 false ≡ false → ((u : ℕ) → 1 ≤ u → u ≤ n → get_or bs u false ≡ P u) → n < length bs → ones (take (suc n) bs) ≡ count_by P (upto n)
count_open bs P zero z h lt =
    ap ones (take-suc bs 0 false lt) ∙ sum_by-append (λ (b : Bool). cond b 1 0) (take 0 bs) (get_or bs 0 false ∷ []) ∙ ap (λ b. ones (take 0 bs) + ones (b ∷ [])) z
count_open bs P (suc n) z h lt =
    ap ones (take-suc bs (suc n) false lt) ∙ sum_by-append (λ (b : Bool). cond b 1 0) (take (suc n) bs) (get_or bs (suc n) false ∷ [])
    ∙ ap₂ (λ k b. k + ones (b ∷ [])) (count_open bs P n z (λ u low high. h u low (omega arith)) (omega arith)) (h (suc n) (omega arith) (omega arith))
    ∙ sym (sum_by-append (λ u. cond (P u) 1 0) (upto n) (suc n ∷ []))

pub found_here : (bs : List Bool) (i left slot l : ℕ) → i < length bs → get_or bs i false ≡ true → left ≡ 0 → find_open (drop i bs) left i ≡ find_open bs slot 0 → get_or bs l false ≡ true → ones (take l bs) ≡ slot → Some i ≡ Some l
found_here bs i left slot l lt set z h t e = sym first ∙ h ∙ find_true bs l slot 0 t e ∙ ap Some (sums l)
  where
    sums : (k : ℕ) → 0 + k ≡ k
    sums k = omega arith

    first : find_open (drop i bs) left i ≡ Some i
    first =
        find_next bs i left lt
        ∙ ap (λ b. cond b (cond (left == 0) (Some i) (find_open (drop (i + 1) bs) (left - 1) (i + 1))) (find_open (drop (i + 1) bs) left (i + 1))) set
        ∙ ap (λ n. cond (n == 0) (Some i) (find_open (drop (i + 1) bs) (left - 1) (i + 1))) z

pub found_nowhere : (bs : List Bool) (i left slot l : ℕ) → length bs ≤ i → find_open (drop i bs) left i ≡ find_open bs slot 0 → get_or bs l false ≡ true → ones (take l bs) ≡ slot → None ≡ Some l
found_nowhere bs i left slot l le h t e = sym (ap (λ xs. find_open xs left i) (drop-all bs i le)) ∙ h ∙ find_true bs l slot 0 t e ∙ ap Some (sums l)
  where
    sums : (k : ℕ) → 0 + k ≡ k
    sums k = omega arith

    drop-all : (xs : List Bool) (n : ℕ) → length xs ≤ n → drop n xs ≡ []
    drop-all [] zero k = refl
    drop-all [] (suc n) k = refl
    drop-all (x ∷ xs) zero k = absurd (omega arith)
    drop-all (x ∷ xs) (suc n) k = drop-all xs n (omega arith)
