-- The marks of rows: keys whose marks differ differ. Cited by the answers of `table`.
use Rattle.std.proofs.Common.{◌≡◌, ◌≢◌, ◌∙◌, ℕ, zero, suc, ◌+◌, ◌<◌, ◌≤◌, Bool, true, false, nat_eq, List, [], ◌∷◌, ◌++◌, map, length, get_or, set, slice_index, Option, refl, sym, ap, subst, inl, inr, arith}
use Rattle.std.specs.Map.{keys_of}
use Rattle.std.proofs.lemmas.Bool.Decides.{eqb_tells}
use Rattle.std.proofs.lemmas.List.{ext_get_or, get_or-set_other, get_or-set_same}
use Rattle.graph_walk.specs.Rows.{mark_of, marks_of}

module _ {K : Type 0} (number : K → ℕ) where
  pub marks_longer : (rows : List (K × Option ℕ)) (row : K × Option ℕ) → marks_of number (rows ++ row ∷ []) ≡ marks_of number rows ++ mark_of (number row.0) ∷ []
  marks_longer [] row = refl
  marks_longer (r ∷ rows) row = ap (λ ms. mark_of (number r.0) ∷ ms) (marks_longer rows row)

  marks_by_keys : (rows : List (K × Option ℕ)) → marks_of number rows ≡ map (λ k. mark_of (number k)) (keys_of rows)
  marks_by_keys [] = refl
  marks_by_keys (r ∷ rows) = ap (λ ms. mark_of (number r.0) ∷ ms) (marks_by_keys rows)

  -- rows of the same keys have the same marks
  pub same_marks : (rows rows' : List (K × Option ℕ)) → keys_of rows' ≡ keys_of rows → marks_of number rows' ≡ marks_of number rows
  same_marks rows rows' same = marks_by_keys rows' ∙ ap (map (λ k. mark_of (number k))) same ∙ sym (marks_by_keys rows)

  pub marks_length : (rows : List (K × Option ℕ)) → length (marks_of number rows) ≡ length rows
  marks_length [] = refl
  marks_length (r ∷ rows) = ap suc (marks_length rows)

  -- the mark of a row's key
  pub mark_at : (rows : List (K × Option ℕ)) (place : ℕ) (d : K) → place < length rows → slice_index (marks_of number rows) place ≡ mark_of (number (get_or (keys_of rows) place d))
  mark_at [] place d h = absurd (omega (arith, h))
  mark_at (r ∷ rows) zero d h = refl
  mark_at (r ∷ rows) (suc place) d h = mark_at rows place d (omega (arith, h))

  -- the marks of so many rows are set
  abbrev pub MarksUpTo : List (K × Option ℕ) → List ℕ → ℕ → Type 0
  MarksUpTo rows marks place = (p : ℕ) → p < place → slice_index marks p ≡ slice_index (marks_of number rows) p

  pub marks_next : (rows : List (K × Option ℕ)) (marks : List ℕ) (place m : ℕ) → place < length marks → m ≡ slice_index (marks_of number rows) place → MarksUpTo rows marks place → MarksUpTo rows (set marks place m) (place + 1)
  marks_next rows marks place m inside is h p below = elim (eqb_tells p place) [
    | inl e ↦ subst (λ q. slice_index (set marks place m) q ≡ slice_index (marks_of number rows) q) (sym e.1) (get_or-set_same marks place m 0 inside ∙ is)
    | inr n ↦ get_or-set_other marks place p m 0 n.1 ∙ h p (let d = n.1 in omega (arith, below, d))
  ]

  pub marks_whole : (rows : List (K × Option ℕ)) (marks : List ℕ) (place : ℕ) → length marks ≡ length rows → length rows ≤ place → MarksUpTo rows marks place → marks ≡ marks_of number rows
  marks_whole rows marks place many all h = ext_get_or 0 marks (marks_of number rows) (many ∙ sym (marks_length rows)) (λ p below. h p (omega (arith, below, many, all)))

-- a key of another mark is another one, as its mark tells
pub told_apart : {K : Type 0} (eq : K → K → Bool) (number : K → ℕ) → ((k l : K) → eq k l ≡ true → number k ≡ number l) → (key other : K) (m n : ℕ) → m ≡ mark_of (number other) → n ≡ mark_of (number key) → m ≢ n → nat_eq m n ≡ eq key other
told_apart eq number respects key other m n is_m is_n apart = by (eq key other) refl
  where
    differ : nat_eq m n ≡ false
    differ = elim (eqb_tells m n) [ inl e ↦ absurd (apart e.1) | inr d ↦ d.0 ]

    by : (b : Bool) → eq key other ≡ b → nat_eq m n ≡ eq key other
    by false e = differ ∙ sym e
    by true e = absurd (apart (is_m ∙ sym (ap mark_of (respects key other e)) ∙ sym is_n))
