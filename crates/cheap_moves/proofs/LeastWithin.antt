-- The first things within a limit are the first of all. Given on to the crates above.
use Rattle.std.proofs.Common.{◌≡◌, ℕ, ◌+◌, ◌≤◌, ◌<◌, List, [], ◌∷◌, length, Option, Some, None, unwrap_or, sym, ap, subst, inl, inr, arith}
use Rattle.cheap_moves.specs.declared.least.CountedMove.{CountedMove}
use Rattle.cheap_moves.specs.LeastMoves.{AreLeastMoves, Counts, IsSooner}
use Rattle.cheap_moves.specs.Within.{CountsWithin, IsWithin, rest_of, total_of}
use Rattle.fare_law.specs.declared.requests.Request.{Request}
use Rattle.fare_law.specs.Book.{Book}
use Rattle.fare_law.specs.Lists.{Each, KLeast}
use Rattle.residual_keys.specs.declared.residual.Chosen.{Chosen}
use Rattle.residual_keys.specs.Residuals.{State}
use Rattle.law_lemmas.proofs.EachOne.{each_weaker}
use Rattle.law_lemmas.proofs.Numbers.{at_most_or}

lower_than : (m n limit : ℕ) → m ≤ limit → limit < n → m < n
lower_than m n limit h k = omega (arith, h, k)

-- in an order that goes by totals first, what is beyond a limit comes after all that is within
module _ {X : Type 0} (total : X → ℕ) (Below : X → X → Type 0) (lower : (x y : X) → total x < total y → Below x y) (Has Near : X → Type 0) (limit : ℕ) where
  beyond_all : (x : X) → limit < total x → (xs : List X) → Each (λ y. total y ≤ limit) xs → Each (λ y. Below y x) xs
  beyond_all x far [] h = tt
  beyond_all x far (y ∷ xs) h = (lower y x (lower_than (total y) (total x) limit h.0 far), beyond_all x far xs h.1)

  -- so many of the first within it are the first of all
  first_within : ((x : X) → Near x → Has x) → ((x : X) → Near x → total x ≤ limit) → ((x : X) → Has x → total x ≤ limit → Near x)
      → (wanted : ℕ) (xs : List X) → KLeast Near Below wanted xs → length xs ≡ wanted → KLeast Has Below wanted xs
  first_within has within near wanted xs h long = record {
    ascending = h.ascending;
    each = each_weaker Near Has has xs h.each;
    few = h.few;
    rest = λ x i out. elim (at_most_or (total x) limit) [
      | inl le ↦ h.rest x (near x i le) out
      | inr far ↦ (beyond_all x far xs (each_weaker Near (λ y. total y ≤ limit) within xs h.each), long)
    ];
  }

module _ (b : Book) (q : Request) (r : State) (bound : State → Option ℕ) where
  -- a total that is within a limit
  pub total_is : (c : Chosen) (rest : ℕ) → rest_of bound c.next ≡ Some rest → c.price + rest ≡ total_of bound c
  total_is c rest e = ap (λ o. c.price + unwrap_or o 0) (sym e)

  pub within_is : (limit : Option ℕ) (c : Chosen) → CountsWithin bound limit c → IsWithin limit (total_of bound c)
  within_is limit c h = subst (IsWithin limit) (total_is c h.rest h.rest_is) h.within

  pub counts_with : (limit limit' : Option ℕ) (c : Chosen) → CountsWithin bound limit c → IsWithin limit' (total_of bound c) → CountsWithin bound limit' c
  counts_with limit limit' c h w = record { rest = h.rest; rest_is = h.rest_is; within = subst (IsWithin limit') (sym (total_is c h.rest h.rest_is)) w }

  -- so many of the first within a limit are the first of all
  first_of_all : (limit : ℕ) (wanted : ℕ) (ms : List CountedMove) → KLeast (Counts b q r bound (Some limit)) IsSooner wanted ms → length ms ≡ wanted → AreLeastMoves b q r bound wanted ms
  first_of_all limit wanted ms h long =
      first_within (λ (m : CountedMove). m.total) IsSooner (λ x y lt. inl lt) (Counts b q r bound None) (Counts b q r bound (Some limit)) limit
      (λ m k. ((k.0.0, counts_with (Some limit) None m.chosen k.0.1 tt), k.1)) (λ m k. subst (λ n. n ≤ limit) (sym k.1) (within_is (Some limit) m.chosen k.0.1))
      (λ m k le. ((k.0.0, counts_with None (Some limit) m.chosen k.0.1 (subst (λ n. n ≤ limit) k.1 le)), k.1)) wanted ms h long

  pub enough : (limit : Option ℕ) (wanted : ℕ) (ms : List CountedMove) → KLeast (Counts b q r bound limit) IsSooner wanted ms → length ms ≡ wanted → AreLeastMoves b q r bound wanted ms
  enough None wanted ms h long = h
  enough (Some limit) wanted ms h long = first_of_all limit wanted ms h long
