-- Items that ascend so far, and those that are left.
use Rattle.std.proofs.Common.{◌≡◌, ◌<◌, ◌≤◌, ◌+◌, ℕ, true, false, ◌&&◌, nat_le, List, [], ◌∷◌, length, drop, get_or, refl, ap, sym, ◌∙◌, drop-cons, add-one, arith}
use Rattle.std.proofs.lemmas.Bool.Decides.{nat_tests}
use Rattle.std.proofs.lemmas.List.{drop_all}
use Rattle.fare_law.specs.Lists.{EachPair}
use Rattle.rule_text.specs.Parts.{ascend_from}
use Rattle.law_lemmas.proofs.Tests.{both_true, le_false, le_true}

module _ {A : Type 0} (rank : A → ℕ) where
  rest_is : (xs : List A) (least i : ℕ) (d : A) → i < length xs
      → ascend_from rank least (drop i xs) ≡ (nat_le least (rank (get_or xs i d)) && ascend_from rank (rank (get_or xs i d) + 1) (drop (i + 1) xs))
  rest_is xs least i d l = rw (drop-cons xs i d l, add-one i) refl

  pub order_more : (xs : List A) (least i : ℕ) (d : A) → i < length xs → least ≤ rank (get_or xs i d)
      → ascend_from rank least (drop i xs) ≡ ascend_from rank 0 xs
      → ascend_from rank (rank (get_or xs i d) + 1) (drop (i + 1) xs) ≡ ascend_from rank 0 xs
  order_more xs least i d l h e =
      sym (rest_is xs least i d l ∙ ap (λ b. b && ascend_from rank (rank (get_or xs i d) + 1) (drop (i + 1) xs)) (le_true least (rank (get_or xs i d)) h)) ∙ e

  pub order_bad : (xs : List A) (least i : ℕ) (d : A) → i < length xs → rank (get_or xs i d) < least
      → ascend_from rank least (drop i xs) ≡ ascend_from rank 0 xs → false ≡ ascend_from rank 0 xs
  order_bad xs least i d l h e =
      sym (rest_is xs least i d l ∙ ap (λ b. b && ascend_from rank (rank (get_or xs i d) + 1) (drop (i + 1) xs)) (le_false least (rank (get_or xs i d)) h)) ∙ e

  pub order_all : (xs : List A) (least i : ℕ) → length xs ≤ i → ascend_from rank least (drop i xs) ≡ ascend_from rank 0 xs → true ≡ ascend_from rank 0 xs
  order_all xs least i l e = sym (ap (λ ys. ascend_from rank least ys) (drop_all i xs l)) ∙ e

  true_le : (a b : ℕ) → nat_le a b ≡ true → a ≤ b
  true_le a b e = grind (arith, nat_tests)

  -- items that ascend stand each before the next
  pub pairs_ascend : (xs : List A) (least : ℕ) → ascend_from rank least xs ≡ true → EachPair (λ one other. rank one < rank other) xs
  pairs_ascend [] least e = tt
  pairs_ascend (x ∷ []) least e = tt
  pairs_ascend (x ∷ y ∷ ys) least e =
      let rest = (both_true (nat_le least (rank x)) (ascend_from rank (rank x + 1) (y ∷ ys)) e).1 in
      let first = true_le (rank x + 1) (rank y) ((both_true (nat_le (rank x + 1) (rank y)) (ascend_from rank (rank y + 1) ys) rest).0) in
      (omega (arith, first), pairs_ascend (y ∷ ys) (rank x + 1) rest)

pub ruleset order_steps = (order_more, order_bad, order_all, pairs_ascend)
