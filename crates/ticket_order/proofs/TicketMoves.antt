-- The moves of a ticket, one component after another.
use Rattle.std.proofs.Common.{◌≡◌, ℕ, zero, suc, ◌+◌, ◌-◌, ◌<◌, ◌&&◌, ◌||◌, true, cond, eqb, List, [], ◌∷◌, ◌++◌, length, take, drop, get_or, count_by, refl, sym, ap, ap₂, ◌∙◌, inl, inr, arith, append_assoc}
use Rattle.std.specs.List.{list_any, drop-map}
use Rattle.std.proofs.Math.ListN.{get_or-map}
use Rattle.std.proofs.lemmas.List.{length-map}
use Rattle.std.proofs.lemmas.Bool.{cases_eq}
use Rattle.std.proofs.lemmas.Bool.Decides.{nat_tests}
use Rattle.fare_law.specs.declared.moves.Move.{Move}
use Rattle.fare_law.specs.declared.tickets.Component.{Component}
use Rattle.fare_law.specs.Lawful.{comes_in}
use Rattle.fare_law.specs.Moves.{move_of, moves_after, upto, labels_below, slot_number}
use Rattle.ticket_order.specs.Tickets.{labels}
use Rattle.law_lemmas.proofs.Lists.{front_is, rest_at}

pub rest_is : {X : Type 0} (xs : List X) (i : ℕ) (x : X) → i < length xs → x ≡ get_or xs i x → drop i xs ≡ x ∷ drop (i + 1) xs
rest_is xs i x lt e = rest_at xs i x lt ∙ ap (λ y. y ∷ drop (i + 1) xs) (sym e)

pub label_at : (cs : List Component) (i : ℕ) (c : Component) → c ≡ get_or cs i c → c.unit ≡ get_or (labels cs) i c.unit
label_at cs i c e = ap (λ d. d.unit) e ∙ sym (get_or-map (λ d. d.unit) cs i c)

pub moves_next : (cs : List Component) (i : ℕ) (c : Component) → i < length cs → c ≡ get_or cs i c
    → moves_after (take i (labels cs)) (drop i cs) ≡ move_of (take i (labels cs)) c (drop (i + 1) (labels cs)) ∷ moves_after (take (i + 1) (labels cs)) (drop (i + 1) cs)
moves_next cs i c lt e =
    ap (moves_after (take i (labels cs))) (rest_is cs i c lt e)
    ∙ ap₂ (λ xs ys. move_of (take i (labels cs)) c xs ∷ moves_after ys (drop (i + 1) cs)) (sym (drop-map (λ d. d.unit) (i + 1) cs)) (sym (front_is (labels cs) i c.unit longer (label_at cs i c e)))
  where
    longer : i < length (labels cs)
    longer = rw length-map lt

pub move_added : (cs : List Component) (i : ℕ) (c : Component) (m : Move) (moves whole : List Move) → i < length cs → c ≡ get_or cs i c → m ≡ move_of (take i (labels cs)) c (drop (i + 1) (labels cs))
    → moves ++ moves_after (take i (labels cs)) (drop i cs) ≡ whole → (moves ++ m ∷ []) ++ moves_after (take (i + 1) (labels cs)) (drop (i + 1) cs) ≡ whole
move_added cs i c m moves whole lt e em h =
    append_assoc moves (m ∷ []) (moves_after (take (i + 1) (labels cs)) (drop (i + 1) cs))
    ∙ ap (λ z. moves ++ z) (ap (λ z. z ∷ moves_after (take (i + 1) (labels cs)) (drop (i + 1) cs)) em ∙ sym (moves_next cs i c lt e)) ∙ h

pub same_test : (u l : ℕ) → eqb l u ≡ eqb u l
same_test u l = elim (cases_eq l u) [
  | inl e ↦ ap₂ eqb e (sym e)
  | inr ne ↦ grind (arith, nat_tests)
]

pub comes_told : (u : ℕ) (ls : List ℕ) → list_any (λ l. eqb l u) ls ≡ comes_in u ls
comes_told u [] = refl
comes_told u (l ∷ ls) = ap₂ (λ a b. a || b) (same_test u l) (comes_told u ls)

below_is : (n : ℕ) → labels_below n ≡ upto (n - 1)
below_is zero = refl
below_is (suc k) = let e : k ≡ suc k - 1 = omega arith in ap upto e

pub slot_told : (before : List ℕ) (unit : ℕ) (after : List ℕ) (slot n : ℕ) → comes_in unit before ≡ true → slot ≡ count_by (λ u. comes_in u before && comes_in u after) (upto n) → n ≡ unit - 1 → slot ≡ slot_number before unit after
slot_told before unit after slot n t e s =
    e ∙ ap (λ us. count_by (λ u. comes_in u before && comes_in u after) us) (ap upto s ∙ sym (below_is unit)) ∙ ap (λ b. cond b (count_by (λ u. comes_in u before && comes_in u after) (labels_below unit)) 0) (sym t)
