-- Rows whose names differ: none repeats the name of one before it.
use Rattle.std.proofs.Common.{◌≡◌, ◌≢◌, ◌<◌, ◌∙◌, ℕ, zero, suc, List, [], ◌∷◌, ◌++◌, sym, ap, subst, inl, inr, arith}
use Rattle.std.proofs.lemmas.Bool.{cases_lt}
use Rattle.fare_law.specs.Lists.{Each, IsIn, Matched}
use Rattle.law_lemmas.proofs.EachOne.{each_append, each_in}
use Rattle.law_lemmas.proofs.Lists.{head_same, no_middle, tail_same}
use Rattle.law_lemmas.proofs.Pairs.{matched_from_right}
use Rattle.law_lemmas.proofs.Members.{in_left, in_middle, in_right}
use Rattle.case_maker.specs.Lines.{all_below}
use Rattle.case_maker.proofs.LegsNamed.{each_below}

-- no two of these have one name
abbrev pub Apart : {X N : Type 0} → (X → N) → List X → Type 0
Apart name [] = Unit {0}
Apart name (x ∷ xs) = Each (λ y. name x ≢ name y) xs × Apart name xs

module _ {X A N : Type 0} (name : X → N) (name_of : A → N) (Of : X → A → Type 0) (named : (x : X) (row : A) → Of x row → name_of row ≡ name x) where
  -- a row has no name of one before it
  pub none_before : (xs : List X) (rows before after : List A) (row earlier : A) → Apart name xs → Matched Of xs rows → rows ≡ before ++ row ∷ after → IsIn earlier before → name_of earlier ≡ name_of row → ⊥
  none_before xs rows [] after row earlier a m e i same = absurd i
  none_before xs [] (b ∷ before) after row earlier a m e i same = no_middle (b ∷ before) row after e
  none_before [] (r ∷ rows) (b ∷ before) after row earlier a m e i same = absurd m
  none_before (x ∷ xs) (r ∷ rows) (b ∷ before) after row earlier a m e (inl is) same =
      let here : r ≡ b = head_same r b rows (before ++ row ∷ after) e in
      let rest : rows ≡ before ++ row ∷ after = tail_same r b rows (before ++ row ∷ after) e in
      let later = matched_from_right Of xs rows row m.1 (subst (λ rs. IsIn row rs) (sym rest) (in_middle before row after)) in
      each_in (λ y. name x ≢ name y) xs later.0 a.0 later.1 (sym (named x r m.0) ∙ ap name_of (here ∙ sym is) ∙ same ∙ named later.0 row later.2)
  none_before (x ∷ xs) (r ∷ rows) (b ∷ before) after row earlier a m e (inr i) same =
      none_before xs rows before after row earlier a.1 m.1 (tail_same r b rows (before ++ row ∷ after) e) i same

-- ---- of what is listed for each number

apart_joined : {X N : Type 0} (name : X → N) (xs ys : List X) → Apart name xs → Apart name ys → Each (λ x. Each (λ y. name x ≢ name y) ys) xs → Apart name (xs ++ ys)
apart_joined name [] ys a b h = b
apart_joined name (x ∷ xs) ys a b h = (each_append (λ y. name x ≢ name y) xs ys a.0 h.0, apart_joined name xs ys a.1 b h.1)

pub all_apart : {X N : Type 0} (name : X → N) (f : ℕ → List X) (count : ℕ) → ((i : ℕ) → i < count → Apart name (f i))
    → ((i j : ℕ) → i < j → j < count → Each (λ x. Each (λ y. name x ≢ name y) (f j)) (f i)) → Apart name (all_below count f)
all_apart name f zero own other = tt
all_apart name f (suc count) own other =
    apart_joined name (all_below count f) (f count) (all_apart name f count (λ i h. own i (omega (arith, h))) (λ i j l h. other i j l (omega (arith, h)))) (own count (omega arith))
    (each_below (λ x. Each (λ y. name x ≢ name y) (f count)) f count (λ i h. other i count h (omega arith)))

-- what is listed for a number is listed
pub in_below : {X : Type 0} (f : ℕ → List X) (count i : ℕ) (x : X) → i < count → IsIn x (f i) → IsIn x (all_below count f)
in_below f zero i x h k = absurd (omega (arith, h))
in_below f (suc count) i x h k = elim (cases_lt i count) [
  | inl less ↦ in_left x (all_below count f) (f count) (in_below f count i x less k)
  | inr most ↦ in_right x (all_below count f) (f count) (subst (λ n. IsIn x (f n)) {x = i} {y = count} (omega (arith, h, most)) k)
]
