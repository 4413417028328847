-- Digits that were read, and digits that are left.
use Rattle.std.proofs.Common.{◌≡◌, ◌<◌, ◌≤◌, ◌+◌, ◌-◌, ◌*◌, ◌^◌, ℕ, zero, suc, Bool, true, false, cond, not, List, [], ◌∷◌, length, drop, get_or, Option, Some, None, option_and_then, refl, ap, sym, ◌∙◌, add-one, arith, subst, inl, inr, eqb, eq-eqb, rules, nat_le, ◌&&◌}
use Rattle.std.proofs.lemmas.Bool.{cases_Bool, cases_order, lt-leb}
use Rattle.std.proofs.lemmas.List.{drop_all}
use borrow.Author.Tests.{tests}
use Rattle.std.specs.Char.{is_ascii_digit}
use Rattle.case_text.specs.Numbers.{read_on, within, number_within}

-- the number that the digits from a place on write, after those of n
abbrev pub from_place : ℕ → ℕ → List ℕ → Option ℕ
from_place n i text = read_on n (drop i text)

digit_here : (text : List ℕ) (n i : ℕ) → i < length text → is_ascii_digit (get_or text i 0) ≡ true → from_place n i text ≡ from_place (10 * n + (get_or text i 0 - 48)) (suc i) text
digit_here [] n i l h = absurd (omega (arith, l))
digit_here (c ∷ cs) n zero l h = ap (λ b. cond b (read_on (10 * n + (c - 48)) cs) None) h
digit_here (c ∷ cs) n (suc i) l h = digit_here cs n i (omega (arith, l)) h

other_here : (text : List ℕ) (n i : ℕ) → i < length text → is_ascii_digit (get_or text i 0) ≡ false → from_place n i text ≡ None
other_here [] n i l h = absurd (omega (arith, l))
other_here (c ∷ cs) n zero l h = ap (λ b. cond b (read_on (10 * n + (c - 48)) cs) None) h
other_here (c ∷ cs) n (suc i) l h = other_here cs n i (omega (arith, l)) h

pub step_digit : (text : List ℕ) (n i : ℕ) → i < length text → is_ascii_digit (get_or text i 0) ≡ true → from_place n i text ≡ read_on 0 text → from_place (10 * n + (get_or text i 0 - 48)) (i + 1) text ≡ read_on 0 text
step_digit text n i l h e = subst (λ k. from_place (10 * n + (get_or text i 0 - 48)) k text ≡ read_on 0 text) (sym (add-one i)) (sym (digit_here text n i l h) ∙ e)

pub step_other : (text : List ℕ) (n i : ℕ) → i < length text → is_ascii_digit (get_or text i 0) ≡ false → from_place n i text ≡ read_on 0 text → None ≡ read_on 0 text
step_other text n i l h e = sym (other_here text n i l h) ∙ e

pub step_end : (text : List ℕ) (n i : ℕ) → length text ≤ i → from_place n i text ≡ read_on 0 text → Some n ≡ read_on 0 text
step_end text n i l e = ap (read_on n) (sym (drop_all i text l)) ∙ e

pub ruleset digit_steps = (step_digit, step_other, step_end)

-- a digit was read, and the others follow
next : (n c : ℕ) (cs : List ℕ) (v : ℕ) → read_on n (c ∷ cs) ≡ Some v → (is_ascii_digit c ≡ true) × (read_on (10 * n + (c - 48)) cs ≡ Some v)
next n c cs v h = elim (cases_Bool (is_ascii_digit c)) [
  | inl e ↦ (e, sym (ap (λ b. cond b (read_on (10 * n + (c - 48)) cs) None) e) ∙ h)
  | inr e ↦ absurd (none_some (sym (ap (λ b. cond b (read_on (10 * n + (c - 48)) cs) None) e) ∙ h))
]
  where
    none_some : None ≡ Some v → ⊥
    none_some k = cc

-- further digits make no number smaller
keeps : (cs : List ℕ) (n v : ℕ) → read_on n cs ≡ Some v → n ≤ v
keeps [] n v h = let e : n ≡ v = cc in omega (arith, e)
keeps (c ∷ cs) n v h = let k = keeps cs (10 * n + (c - 48)) v (next n c cs v h).1 in omega (arith, k)

-- one more digit, and the number is at least tenfold
tenfold : (n c : ℕ) (cs : List ℕ) (v low : ℕ) → low ≤ n → read_on n (c ∷ cs) ≡ Some v → (m : ℕ) × (10 * low ≤ m) × (read_on m cs ≡ Some v)
tenfold n c cs v low l h = (10 * n + (c - 48), omega (arith, l), (next n c cs v h).1)

digit_low : (c : ℕ) → is_ascii_digit c ≡ true → 48 ≤ c
digit_low c h = search (rules, tests)

no_zero : (a : ℕ) → is_ascii_digit a ≡ true → not (eqb a 48) ≡ true → 49 ≤ a
no_zero a h lead = elim (cases_order a 48) [
  | inl e ↦ absurd (true_false (sym (ap not (eq-eqb a 48 e)) ∙ lead))
  | inr o ↦ elim o [ inl lt ↦ absurd (omega (arith, lt, digit_low a h)) | inr gt ↦ gt ]
]
  where
    true_false : false ≡ true → ⊥
    true_false k = cc

-- six digits and more, the first of which is no zero, write a number above 65535
six : (a b c d e f : ℕ) (rest : List ℕ) (v : ℕ) → not (eqb a 48) ≡ true → read_on 0 (a ∷ b ∷ c ∷ d ∷ e ∷ f ∷ rest) ≡ Some v → 65535 < v
six a b c d e f rest v lead h =
    let x = next 0 a (b ∷ c ∷ d ∷ e ∷ f ∷ rest) v h in
    let t1 = tenfold (10 * 0 + (a - 48)) b (c ∷ d ∷ e ∷ f ∷ rest) v 1 (omega (arith, no_zero a x.0 lead)) x.1 in
    let t2 = tenfold t1.0 c (d ∷ e ∷ f ∷ rest) v 10 t1.1 t1.2 in
    let t3 = tenfold t2.0 d (e ∷ f ∷ rest) v 100 t2.1 t2.2 in
    let t4 = tenfold t3.0 e (f ∷ rest) v 1000 t3.1 t3.2 in
    let t5 = tenfold t4.0 f rest v 10000 t4.1 t4.2 in
    omega (arith, t5.1, keeps rest t5.0 v t5.2)

and_no : (b : Bool) → (b && false) ≡ false
and_no true = refl
and_no false = refl

-- a text of more than five characters spells no number that a u16 holds
pub none_long : (text : List ℕ) (low high : ℕ) → 5 < length text → high < 2 ^ 16 → None ≡ number_within low high text
none_long [] low high l m = absurd (omega (arith, l))
none_long (a ∷ []) low high l m = absurd (omega (arith, l))
none_long (a ∷ b ∷ []) low high l m = absurd (omega (arith, l))
none_long (a ∷ b ∷ c ∷ []) low high l m = absurd (omega (arith, l))
none_long (a ∷ b ∷ c ∷ d ∷ []) low high l m = absurd (omega (arith, l))
none_long (a ∷ b ∷ c ∷ d ∷ e ∷ []) low high l m = absurd (omega (arith, l))
none_long (a ∷ b ∷ c ∷ d ∷ e ∷ f ∷ rest) low high l m = go (not (eqb a 48)) refl (read_on 0 (a ∷ b ∷ c ∷ d ∷ e ∷ f ∷ rest)) refl
  where
    go : (t : Bool) → not (eqb a 48) ≡ t → (o : Option ℕ) → read_on 0 (a ∷ b ∷ c ∷ d ∷ e ∷ f ∷ rest) ≡ o → None ≡ option_and_then (within low high) (cond t o None)
    go false e o k = refl
    go true lead None k = refl
    go true lead (Some v) k = ap (λ b. cond b (Some v) None) (sym (out v (six a b c d e f rest v lead k)))
      where
        out : (v : ℕ) → 65535 < v → (nat_le low v && nat_le v high) ≡ false
        out v over = ap (λ t. nat_le low v && t) (lt-leb v high (omega (arith, over, m))) ∙ and_no (nat_le low v)
