-- Steps without what another of the list makes idle are a list of the same marks.
use Rattle.std.proofs.Common.{◌≡◌, ◌⊎◌, ◌∙◌, ℕ, zero, suc, ◌+◌, ◌≤◌, ◌<◌, List, [], ◌∷◌, ◌++◌, length, take, get_or, slice_get, slice_set, Option, Some, None, refl, sym, ap, subst, inl, inr, arith}
use Rattle.std.proofs.Math.Seq.{take-suc}
use Rattle.fare_law.specs.Lists.{Each, IsIn}
use Rattle.outlines.specs.declared.marks.Listed.{Listed}
use Rattle.outlines.specs.declared.marks.Mark.{Mark}
use Rattle.outlines.specs.declared.outline.Entry.{Entry}
use Rattle.outlines.specs.Marks.{IsList}
use Rattle.residual_table.specs.Keys.{IsSlot, Tables as Numbers}
use Rattle.search_steps.specs.declared.numbered.Step.{Step}
use Rattle.search_steps.specs.Numbers.{AreSteps, AreStepsOf, HasSteps, IsStep}
use Rattle.search_steps.specs.Shortening.{HasMarkAt, HasNoDearer, HaveOneMark, IsShorter}
use Rattle.law_lemmas.proofs.EachOne.{each_member, each_more, each_weaker}
use Rattle.law_lemmas.proofs.Members.{in_either, in_left, in_right}
use Rattle.law_lemmas.proofs.Numbers.{le_itself}
use Rattle.law_lemmas.proofs.Options.{some_one}
use Rattle.law_lemmas.proofs.Pairs.{matched_from_left, matched_from_right}

pub got_in : (ss : List Step) (n : ℕ) (s : Step) → slice_get ss n ≡ Some s → IsIn s ss
got_in [] n s e = absurd (cc)
got_in (u ∷ ss) zero s e = inl (let z : s ≡ u = cc in z)
got_in (u ∷ ss) (suc n) s e = inr (got_in ss n s e)

one_mark : (s u : Step) → s ≡ u → HaveOneMark u s
one_mark s u e = record { after = ap (λ (z : Step). z.after) (sym e); unit = ap (λ (z : Step). z.unit) (sym e); carrier = ap (λ (z : Step). z.carrier) (sym e); ends = ap (λ (z : Step). z.ends) (sym e) }

pub shorter_none : IsShorter [] []
shorter_none = record { part = tt; covered = λ s i. absurd i }

mark_on : (s u v : Step) → HaveOneMark v u → HaveOneMark u s → HaveOneMark v s
mark_on s u v h k = record { after = h.after ∙ k.after; unit = h.unit ∙ k.unit; carrier = h.carrier ∙ k.carrier; ends = h.ends ∙ k.ends }

-- what is shorter than a shorter list
pub shorter_twice : (old mid new : List Step) → IsShorter old mid → IsShorter mid new → IsShorter old new
shorter_twice old mid new g h = record {
  part = each_weaker (λ s. IsIn s mid) (λ s. IsIn s old) (λ s i. each_member (λ z. IsIn z old) s mid g.part i) new h.part;
  covered = λ s i.
      let u = g.covered s i in
      let v = h.covered u.0 u.1 in
      let first = u.3 in
      let second = v.3 in
      (v.0, v.1, mark_on s u.0 v.0 v.2 u.2, omega (arith, first, second));
}

each_from : (all ss : List Step) → ((s : Step) → IsIn s ss → IsIn s all) → Each (λ s. IsIn s all) ss
each_from all [] f = tt
each_from all (s ∷ ss) f = (f s (inl refl), each_from all ss (λ u i. f u (inr i)))

each_itself : (ss : List Step) → Each (λ s. IsIn s ss) ss
each_itself ss = each_from ss ss (λ s i. i)

-- what is shorter than a list is so with one more at the end of both
shorter_more : (ss old : List Step) (s : Step) → IsShorter ss old → IsShorter (ss ++ s ∷ []) (old ++ s ∷ [])
shorter_more ss old s h = record {
  part = each_more (λ u. IsIn u (ss ++ s ∷ [])) old s (each_weaker (λ u. IsIn u ss) (λ u. IsIn u (ss ++ s ∷ [])) (λ u i. in_left u ss (s ∷ []) i) old h.part) (in_right s ss (s ∷ []) (inl refl));
  covered = λ u i. cover u (in_either u ss (s ∷ []) i);
}
  where
    cover : (u : Step) → IsIn u ss ⊎ IsIn u (s ∷ []) → HasNoDearer (old ++ s ∷ []) u
    cover u (inl i) = let z = h.covered u i in (z.0, in_left z.0 old (s ∷ []) z.1, z.2, z.3)
    cover u (inr (inl e)) = (s, in_right s old (s ∷ []) (inl refl), one_mark u s e, subst (λ (z : Step). s.price ≤ z.price) (sym e) (le_itself s.price))
    cover u (inr (inr n)) = absurd n

pub shorter_next : (ss : List Step) (i : ℕ) (d : Step) (old new : List Step) → i < length ss → IsShorter (old ++ get_or ss i d ∷ []) new → IsShorter (take i ss) old → IsShorter (take (i + 1) ss) new
shorter_next ss i d old new lt more h =
    let one : i + 1 ≡ suc i = omega arith in
    let front : take (i + 1) ss ≡ take i ss ++ get_or ss i d ∷ [] = ap (λ n. take n ss) one ∙ take-suc ss i d lt in
    subst (λ us. IsShorter us new) (sym front) (shorter_twice (take i ss ++ get_or ss i d ∷ []) (old ++ get_or ss i d ∷ []) new (shorter_more (take i ss) old (get_or ss i d) h) more)

pub shorter_itself : (ss : List Step) → IsShorter ss ss
shorter_itself ss = record {
  part = each_itself ss;
  covered = λ s i. (s, i, one_mark s s refl, le_itself s.price);
}

-- one at a place may stand for one more of its mark that costs no less
pub shorter_had : (ss : List Step) (n : ℕ) (s u : Step) → slice_get ss n ≡ Some u → HaveOneMark u s → u.price ≤ s.price → IsShorter (ss ++ s ∷ []) ss
shorter_had ss n s u got mark low = record {
  part = each_weaker (λ z. IsIn z ss) (λ z. IsIn z (ss ++ s ∷ [])) (λ z i. in_left z ss (s ∷ []) i) ss (each_itself ss);
  covered = λ z i. cover z (in_either z ss (s ∷ []) i);
}
  where
    cover : (z : Step) → IsIn z ss ⊎ IsIn z (s ∷ []) → HasNoDearer ss z
    cover z (inl i) = (z, i, one_mark z z refl, le_itself z.price)
    cover z (inr (inl e)) = subst (HasNoDearer ss) (sym e) (u, got_in ss n u got, mark, low)
    cover z (inr (inr none)) = absurd none

-- and one more may stand at the place of one of its mark that costs no less
pub shorter_put : (ss : List Step) (n : ℕ) (s u : Step) → slice_get ss n ≡ Some u → HaveOneMark u s → s.price ≤ u.price → IsShorter (ss ++ s ∷ []) (slice_set ss n s)
shorter_put [] n s u got mark low = absurd (cc)
shorter_put (x ∷ ss) zero s u got mark low = record {
  part = (in_right s (x ∷ ss) (s ∷ []) (inl refl), each_weaker (λ z. IsIn z ss) (λ z. IsIn z (x ∷ (ss ++ s ∷ []))) (λ z i. inr (in_left z ss (s ∷ []) i)) ss (each_itself ss));
  covered = λ z i. cover z i;
}
  where
    first : x ≡ u
    first = let z : Some x ≡ Some u = got in cc

    cover : (z : Step) → IsIn z (x ∷ (ss ++ s ∷ [])) → HasNoDearer (s ∷ ss) z
    cover z (inl e) = (s, inl refl, turned z (e ∙ first), subst (λ (y : Step). s.price ≤ y.price) (sym (e ∙ first)) low)
      where
        turned : (y : Step) → y ≡ u → HaveOneMark s y
        turned y f = subst (HaveOneMark s) (sym f) (record { after = sym mark.after; unit = sym mark.unit; carrier = sym mark.carrier; ends = sym mark.ends })
    cover z (inr i) = rest z (in_either z ss (s ∷ []) i)
      where
        rest : (z : Step) → IsIn z ss ⊎ IsIn z (s ∷ []) → HasNoDearer (s ∷ ss) z
        rest z (inl i) = (z, inr i, one_mark z z refl, le_itself z.price)
        rest z (inr (inl e)) = (s, inl refl, one_mark z s e, subst (λ (z : Step). s.price ≤ z.price) (sym e) (le_itself s.price))
        rest z (inr (inr none)) = absurd none
shorter_put (x ∷ ss) (suc n) s u got mark low =
    let more = shorter_put ss n s u got mark low in
    record {
      part = (inl refl, each_weaker (λ z. IsIn z (ss ++ s ∷ [])) (λ z. IsIn z (x ∷ (ss ++ s ∷ []))) (λ z i. inr i) (slice_set ss n s) more.part);
      covered = λ z i. cover more z i;
    }
  where
    cover : IsShorter (ss ++ s ∷ []) (slice_set ss n s) → (z : Step) → IsIn z (x ∷ (ss ++ s ∷ [])) → HasNoDearer (x ∷ slice_set ss n s) z
    cover more z (inl e) = (x, inl refl, one_mark z x e, subst (λ (y : Step). x.price ≤ y.price) (sym e) (le_itself x.price))
    cover more z (inr i) = let y = more.covered z i in (y.0, inr y.1, y.2, y.3)

got_or : (ss : List Step) (n : ℕ) (d u : Step) → slice_get ss n ≡ Some u → get_or ss n d ≡ u
got_or [] n d u e = absurd (cc)
got_or (s ∷ ss) zero d u e = cc
got_or (s ∷ ss) (suc n) d u e = got_or ss n d u e

-- the same of a step whose mark stands at a place
pub lower_had : (ss : List Step) (n : ℕ) (s d : Step) → HasMarkAt ss s n → (get_or ss n d).price ≤ s.price → IsShorter (ss ++ s ∷ []) ss
lower_had ss n s d has low = shorter_had ss n s has.0 has.1 has.2 (subst (λ (z : Step). z.price ≤ s.price) (got_or ss n d has.0 has.1) low)

pub lower_put : (ss : List Step) (n : ℕ) (s d : Step) → HasMarkAt ss s n → s.price < (get_or ss n d).price → IsShorter (ss ++ s ∷ []) (slice_set ss n s)
lower_put ss n s d has low =
    let less = subst (λ (z : Step). s.price < z.price) (got_or ss n d has.0 has.1) low in
    shorter_put ss n s has.0 has.1 has.2 (omega (arith, less))

-- what has one slot is one
slot_one : {X : Type 0} (xs : List X) (m n : ℕ) (a b : Option X) → m ≡ n → IsSlot xs m a → IsSlot xs n b → a ≡ b
slot_one xs m n None None e h k = refl
slot_one xs m n None (Some y) e h k = absurd (let z = k.1 in omega (arith, e, h, z))
slot_one xs m n (Some x) None e h k = absurd (let z = h.1 in omega (arith, e, k, z))
slot_one xs m n (Some x) (Some y) e h k =
    let p = h.1 in
    let q = k.1 in
    let same : h.0 ≡ k.0 = omega (arith, e, p, q) in
    ap Some (some_one (slice_get xs k.0) x y (ap (slice_get xs) (sym same) ∙ h.2) k.2)

pub mark_one : (t : Numbers) (x y : Listed) (s u : Step) → IsStep t x s → IsStep t y u → HaveOneMark u s → y.mark ≡ x.mark
mark_one t x y s u h k e =
    let after : y.mark.after ≡ x.mark.after = slot_one t.positions u.after s.after y.mark.after x.mark.after e.after k.after h.after in
    let unit : y.mark.unit ≡ x.mark.unit = slot_one t.units u.unit s.unit y.mark.unit x.mark.unit e.unit k.unit h.unit in
    let carrier : y.mark.carrier ≡ x.mark.carrier = sym k.carrier ∙ e.carrier ∙ h.carrier in
    let ends : y.mark.ends ≡ x.mark.ends = sym k.ends ∙ e.ends ∙ h.ends in
    λ j. record { after = after j; unit = unit j; carrier = carrier j; ends = ends j }

-- the marks of some of the steps of a list
record Picked (t : Numbers) (list : List Listed) (kept : List Step) : Type 0 where
  marks : List Listed
  steps : AreSteps t marks kept
  part : Each (λ x. IsIn x list) marks

picked : (t : Numbers) (list : List Listed) (steps kept : List Step) → AreSteps t list steps → Each (λ s. IsIn s steps) kept → Picked t list kept
picked t list steps [] are h = record { marks = []; steps = tt; part = tt }
picked t list steps (s ∷ kept) are h =
    let x = matched_from_right (IsStep t) list steps s are h.0 in
    let more = picked t list steps kept are h.1 in
    record { marks = x.0 ∷ more.marks; steps = (x.2, more.steps); part = (x.1, more.part) }

pub shorter_steps : (t : Numbers) (list : List Listed) (steps kept : List Step) → AreSteps t list steps → IsShorter steps kept → HasSteps t list kept
shorter_steps t list steps kept are short = record {
  marks = some.marks;
  part = some.part;
  covered = λ x i.
      let s = matched_from_left (IsStep t) list steps x are i in
      let u = short.covered s.0 s.1 in
      let y = matched_from_right (IsStep t) some.marks kept u.0 some.steps u.1 in
      let below = u.3 in
      let of_x = s.2.price in
      let of_y = y.2.price in
      (y.0, y.1, mark_one t x y.0 s.0 u.0 s.2 y.2 u.2, omega (arith, below, of_x, of_y));
  steps = some.steps;
}
  where
    some : Picked t list kept
    some = picked t list steps kept are short.part

-- marks of a table's entries stay a list of them
pub list_of_steps : (t : Numbers) (Is : Entry → Mark → Type 0) (table : List Entry) (xs : List Listed) (ss : List Step) → HasSteps t xs ss → IsList Is table xs → AreStepsOf t Is table ss
list_of_steps t Is table xs ss has h = record {
  list = has.marks;
  is = record {
    attained = each_weaker (λ x. IsIn x xs) Attained (λ x i. each_member Attained x xs h.attained i) has.marks has.part;
    covered = λ e i m k.
        let x = h.covered e i m k in
        let y = has.covered x.0 x.1 in
        (y.0, y.1, y.2 ∙ x.2, omega (arith, y.3, x.3));
  };
  steps = has.steps;
}
  where
    Attained : Listed → Type 0
    Attained x = (e : Entry) × IsIn e table × Is e x.mark × (x.price ≡ e.price)
