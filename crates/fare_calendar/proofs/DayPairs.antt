-- The cells so far match the pairs of days so far, and values their numbers: for the loops of `calendar`.
use Rattle.std.proofs.Common.{◌≡◌, ◌⊎◌, ℕ, zero, suc, ◌+◌, List, [], ◌∷◌, ◌++◌, length, map, flat_map, slice_get, Some, refl, ap, sym, subst, inl, inr, ⊎_elim, ◌∙◌, append_assoc, append-nil, length-append, arith}
use Rattle.fare_calendar.specs.Cells.{cell}
use Rattle.fare_calendar.specs.Columns.{AreNumbered}
use Rattle.fare_calendar.specs.declared.cell.CellValue.{CellValue}
use Rattle.fare_calendar.specs.declared.columns.OutDays.{OutDays}
use Rattle.fare_law.specs.Book.{Book}
use Rattle.fare_law.specs.declared.requests.Request.{Request}
use Rattle.fare_calendar.specs.Calendars.{HasValue, numbers_below, with_backs, day_pairs}
use Rattle.fare_law.specs.Lists.{Matched}
use Rattle.law_lemmas.proofs.Lists.{map_end}
use Rattle.law_lemmas.proofs.Options.{some_same}
use Rattle.law_lemmas.proofs.Pairs.{matched_more}

flat_map_more : {X Y : Type 0} (f : X → List Y) (xs : List X) (x : X) → flat_map f (xs ++ x ∷ []) ≡ flat_map f xs ++ f x
flat_map_more f [] x = append-nil (f x)
flat_map_more f (w ∷ xs) x = ap (λ ys. f w ++ ys) (flat_map_more f xs x) ∙ sym (append_assoc (f w) (flat_map f xs) (f x))

below_more : (n : ℕ) → numbers_below (n + 1) ≡ numbers_below n ++ n ∷ []
unfolding numbers_below
below_more n = let e : n + 1 ≡ suc n = omega arith in ap numbers_below e

below_none : numbers_below 0 ≡ []
unfolding numbers_below
below_none = refl

module _ {Y : Type 0} (R : ℕ × ℕ → Y → Type 0) where
  -- no day back yet
  pub no_back : (pairs : List (ℕ × ℕ)) (out : ℕ) (cells : List Y) → Matched R pairs cells → Matched R (pairs ++ with_backs 0 out) cells
  no_back pairs out cells m =
      subst (λ ps. Matched R ps cells) (sym (ap (λ ns. pairs ++ map (λ (back : ℕ). (out, back)) ns) below_none ∙ append-nil pairs)) m

  -- one day back more
  pub one_back : (pairs : List (ℕ × ℕ)) (out n : ℕ) (cells : List Y) (c : Y) → Matched R (pairs ++ with_backs n out) cells → R (out, n) c
      → Matched R (pairs ++ with_backs (n + 1) out) (cells ++ c ∷ [])
  one_back pairs out n cells c m r =
      let whole : pairs ++ with_backs (n + 1) out ≡ (pairs ++ with_backs n out) ++ (out, n) ∷ [] =
      ap (λ ns. pairs ++ map (λ (back : ℕ). (out, back)) ns) (below_more n)
      ∙ ap (λ ps. pairs ++ ps) (map_end (λ (back : ℕ). (out, back)) (numbers_below n) n)
      ∙ sym (append_assoc pairs (with_backs n out) ((out, n) ∷ [])) in
      subst (λ ps. Matched R ps (cells ++ c ∷ [])) (sym whole) (matched_more R (pairs ++ with_backs n out) cells (out, n) c m r)

  -- no day out yet
  pub no_out : (backs : ℕ) → Matched R (day_pairs 0 backs) []
  no_out backs = subst (λ ns. Matched R (flat_map (with_backs backs) ns) []) (sym below_none) tt

  -- one day out more
  pub one_out : (backs n : ℕ) (cells : List Y) → Matched R (day_pairs n backs ++ with_backs backs n) cells → Matched R (day_pairs (n + 1) backs) cells
  one_out backs n cells m =
      subst (λ ps. Matched R ps cells) (sym (ap (flat_map (with_backs backs)) (below_more n) ∙ flat_map_more (with_backs backs) (numbers_below n) n)) m

-- what the cell of a day out tells
abbrev pub ValueOn : Book → Request → ℕ → OutDays → ℕ → ℕ → CellValue → Type 0
ValueOn b q budget outs back later value = HasValue b (cell q (outs.first + later) back) budget value

-- what stands in a list with one more
got_end : {X : Type 0} (xs : List X) (x : X) (i : ℕ) (y : X) → slice_get (xs ++ x ∷ []) i ≡ Some y → (slice_get xs i ≡ Some y) ⊎ ((i ≡ length xs) × (x ≡ y))
got_end [] x zero y e = inr (refl, some_same x y e)
got_end [] x (suc i) y e = absurd (cc)
got_end (z ∷ xs) x zero y e = inl e
got_end (z ∷ xs) x (suc i) y e = ⊎_elim (λ h. inl h) (λ h. inr (ap suc h.0, h.1)) (got_end xs x i y e)

module _ {X : Type 0} (Is : ℕ → X → Type 0) where
  pub none_numbered : AreNumbered Is 0 []
  none_numbered = record { many = refl; each = λ i x e. absurd (cc) }

  pub one_numbered : (n : ℕ) (xs : List X) (x : X) → AreNumbered Is n xs → Is n x → AreNumbered Is (n + 1) (xs ++ x ∷ [])
  one_numbered n xs x h is = record {
    many = let m = h.many in omega (arith, m, length-append xs (x ∷ []));
    each = λ i y e. ⊎_elim (λ f. h.each i y f) (λ f. subst (λ (z : X). Is i z) f.1 (subst (λ (k : ℕ). Is k x) (sym (f.0 ∙ h.many)) is)) (got_end xs x i y e);
  }
