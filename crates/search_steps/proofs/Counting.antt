-- The first of the moves that count are the first as a search has them.
use Rattle.std.proofs.Common.{◌≡◌, ◌∙◌, ℕ, ◌≤◌, List, [], ◌∷◌, suc, length, map, Option, Some, None, refl, sym, ap, subst, inl, inr, arith}
use Rattle.cheap_moves.specs.declared.least.CountedMove.{CountedMove}
use Rattle.cheap_moves.specs.LeastMoves.{AreLeastMoves as AreCounted, Counts as CountsFor, IsSooner as IsBefore}
use Rattle.cheap_moves.specs.Within.{rest_of}
use Rattle.cheap_moves.proofs.LeastWithin.{total_is}
use Rattle.fare_law.specs.declared.requests.Request.{Request}
use Rattle.fare_law.specs.Book.{Book}
use Rattle.fare_law.specs.Lists.{Each, EachPair, IsIn, KLeast}
use Rattle.residual_keys.specs.declared.residual.Next.{Next}
use Rattle.residual_keys.specs.declared.residual.Next.TheVariants.{At, Done}
use Rattle.residual_keys.specs.Residuals.{State}
use Rattle.residual_keys.specs.Steps.{IsChosen}
use Rattle.residual_keys.proofs.StepTaken.{slice_known}
use Rattle.search_steps.specs.declared.least.LeastMove.{LeastMove}
use Rattle.search_steps.specs.Leads.{next_of, state_of}
use Rattle.search_steps.specs.LeastMoves.{AreLeastMoves, Counts, HasBound, IsSooner, RestIs, least_of}

-- the first of things are the first of what stands for them, in the order of these
module _ {X Y : Type 0} (f : X → Y) (g : Y → X) (Below : X → X → Type 0) (Below' : Y → Y → Type 0) (like : (x y : X) → Below x y → Below' (f x) (f y)) (Has : X → Type 0) (Has' : Y → Type 0) (there : (x : X) → Has x → Has' (f x)) (back : (y : Y) → Has' y → Has (g y) × (f (g y) ≡ y)) where
  pairs_as : (xs : List X) → EachPair Below xs → EachPair Below' (map f xs)
  pairs_as [] h = tt
  pairs_as (x ∷ []) h = tt
  pairs_as (x ∷ y ∷ xs) h = (like x y h.0, pairs_as (y ∷ xs) h.1)

  each_as : (P : X → Type 0) (Q : Y → Type 0) → ((x : X) → P x → Q (f x)) → (xs : List X) → Each P xs → Each Q (map f xs)
  each_as P Q to [] h = tt
  each_as P Q to (x ∷ xs) h = (to x h.0, each_as P Q to xs h.1)

  in_as : (x : X) (xs : List X) → IsIn x xs → IsIn (f x) (map f xs)
  in_as x [] i = absurd i
  in_as x (y ∷ xs) (inl e) = inl (ap f e)
  in_as x (y ∷ xs) (inr i) = inr (in_as x xs i)

  long_as : (xs : List X) → length (map f xs) ≡ length xs
  long_as [] = refl
  long_as (x ∷ xs) = ap suc (long_as xs)

  least_as_these : (k : ℕ) (xs : List X) → KLeast Has Below k xs → KLeast Has' Below' k (map f xs)
  least_as_these k xs h = record {
    ascending = pairs_as xs h.ascending;
    each = each_as Has Has' there xs h.each;
    few = subst (λ n. n ≤ k) (sym (long_as xs)) h.few;
    rest = λ y has out.
        let z = back y has in
        let r = h.rest (g y) z.0 (λ i. out (subst (λ w. IsIn w (map f xs)) z.1 (in_as (g y) xs i))) in
        (each_as (λ x. Below x (g y)) (λ w. Below' w y) (λ x l. subst (Below' (f x)) z.1 (like x (g y) l)) xs r.0, long_as xs ∙ r.1);
  }

module _ (b : Book) (q : Request) (x : State) (bound : State → Option ℕ) where
  same_next : (n : Next) → next_of (state_of n) ≡ n
  same_next Done = refl
  same_next (At y) = refl

  rest_as : (n : Next) (rest : ℕ) → rest_of bound n ≡ Some rest → RestIs (HasBound bound) (state_of n) rest
  rest_as Done rest e = cc
  rest_as (At y) rest e = e

  rest_from : (o : Option State) (rest : ℕ) → RestIs (HasBound bound) o rest → rest_of bound (next_of o) ≡ Some rest
  rest_from None rest e = ap Some (sym e)
  rest_from (Some y) rest e = e

  counts_as : (m : CountedMove) → CountsFor b q x bound None m → Counts b q (HasBound bound) x (least_of m)
  counts_as m h = record {
    move = subst (λ n. IsChosen b q x (record { mv = m.chosen.mv; price = m.chosen.price; next = n })) (sym (same_next m.chosen.next)) h.0.0;
    rest = h.0.1.rest;
    bound = rest_as m.chosen.next h.0.1.rest h.0.1.rest_is;
    total = h.1 ∙ sym (total_is b q x bound m.chosen h.0.1.rest h.0.1.rest_is);
  }

  abbrev counted_as : LeastMove State → CountedMove
  counted_as m = record { chosen = record { mv = m.mv; price = m.price; next = next_of m.next }; total = m.total }

  same_state : (o : Option State) → state_of (next_of o) ≡ o
  same_state None = refl
  same_state (Some y) = refl

  counts_from : (m : LeastMove State) → Counts b q (HasBound bound) x m → CountsFor b q x bound None (counted_as m) × (least_of (counted_as m) ≡ m)
  counts_from m h =
      let r = rest_from m.next h.rest h.bound in (
        ((h.move, record { rest = h.rest; rest_is = r; within = tt }), h.total ∙ total_is b q x bound (record { mv = m.mv; price = m.price; next = next_of m.next }) h.rest r),
        λ i. record { mv = m.mv; price = m.price; next = same_state m.next i; total = m.total },
      )

  pub least_moves_as : (wanted : ℕ) (found : List CountedMove) → AreCounted b q x bound wanted found → AreLeastMoves b q (HasBound bound) x wanted (map least_of found)
  least_moves_as wanted found h = least_as_these least_of counted_as IsBefore IsSooner (λ m n l. l) (CountsFor b q x bound None) (Counts b q (HasBound bound) x) counts_as counts_from wanted found h

-- a residual past the last slice has none
pub none_past : (b : Book) (q : Request) (x : State) (Bound : State → ℕ → Type 0) (wanted : ℕ) → length q.slices ≤ x.at.slice → AreLeastMoves b q Bound x wanted []
none_past b q x Bound wanted past = record {
  ascending = tt;
  each = tt;
  few = omega arith;
  rest = λ m h out. absurd (let lt = slice_known b q x m.mv (next_of m.next) (m.price, h.move) in omega (arith, lt, past));
}
