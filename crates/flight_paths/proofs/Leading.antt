-- Paths of the slices up to the position's, of which some of the first are heads already.
use Rattle.std.proofs.Common.{◌≡◌, ℕ, zero, suc, ◌≤◌, ◌<◌, List, [], ◌∷◌, length, get_or, slice_set, sym, subst, inr, arith}
use Rattle.fare_law.specs.declared.requests.Slice.{Slice}
use Rattle.fare_law.specs.Book.{Book}
use Rattle.fare_law.specs.Lists.{IsIn, Matched}
use Rattle.flight_paths.specs.declared.positions.Path.{Path}
use Rattle.flight_paths.specs.declared.positions.Position.{Position}
use Rattle.flight_paths.proofs.Confined.{HeadOf}
use Rattle.law_lemmas.proofs.Members.{in_list}

apart : (x : Path) (xs : List Path) → x ∷ xs ≡ [] → ⊥
apart x xs e = cc

same_first : (x y : Path) (xs ys : List Path) → x ∷ xs ≡ y ∷ ys → x ≡ y
same_first x y xs ys e = cc

same_rest : (x y : Path) (xs ys : List Path) → x ∷ xs ≡ y ∷ ys → xs ≡ ys
same_rest x y xs ys e = cc

module _ (b : Book) (sl : List Slice) (at : Position) where
  -- so many of the first are the paths' heads, and the others the paths
  abbrev pub LedBy : ℕ → List Path → List Path → Type 0
  LedBy zero ps qs = qs ≡ ps
  LedBy (suc i) [] [] = Unit {0}
  LedBy (suc i) [] (q ∷ qs) = ⊥
  LedBy (suc i) (p ∷ ps) [] = ⊥
  LedBy (suc i) (p ∷ ps) (q ∷ qs) = HeadOf b sl at p q × LedBy i ps qs

  -- one more
  pub led_more : (i : ℕ) (ps qs : List Path) (d q : Path) → LedBy i ps qs → i < length qs → HeadOf b sl at (get_or qs i d) q → LedBy (suc i) ps (slice_set qs i q)
  led_more zero ps [] d q h lt w = absurd (omega arith)
  led_more zero [] (x ∷ qs) d q h lt w = absurd (apart x qs h)
  led_more zero (p ∷ ps) (x ∷ qs) d q h lt w = (subst (λ y. HeadOf b sl at y q) (same_first x p qs ps h) w, same_rest x p qs ps h)
  led_more (suc i) ps [] d q h lt w = absurd (omega arith)
  led_more (suc i) [] (x ∷ qs) d q h lt w = absurd h
  led_more (suc i) (p ∷ ps) (x ∷ qs) d q h lt w = (h.0, led_more i ps qs d q h.1 (omega arith) w)

  -- the next is still one of the paths
  pub led_next : (i : ℕ) (ps qs : List Path) (d : Path) → LedBy i ps qs → i < length qs → IsIn (get_or qs i d) ps
  led_next zero ps qs d h lt = subst (IsIn (get_or qs 0 d)) h (in_list qs 0 d lt)
  led_next (suc i) ps [] d h lt = absurd (omega arith)
  led_next (suc i) [] (x ∷ qs) d h lt = absurd h
  led_next (suc i) (p ∷ ps) (x ∷ qs) d h lt = inr (led_next i ps qs d h.1 (omega arith))

  -- all of them
  pub led_all : (i : ℕ) (ps qs : List Path) → LedBy i ps qs → length qs ≤ i → Matched (HeadOf b sl at) ps qs
  led_all zero [] [] h le = tt
  led_all zero (p ∷ ps) [] h le = absurd (apart p ps (sym h))
  led_all zero ps (q ∷ qs) h le = absurd (omega arith)
  led_all (suc i) [] [] h le = tt
  led_all (suc i) [] (q ∷ qs) h le = absurd h
  led_all (suc i) (p ∷ ps) [] h le = absurd h
  led_all (suc i) (p ∷ ps) (q ∷ qs) h le = (h.0, led_all i ps qs h.1 (omega arith))
