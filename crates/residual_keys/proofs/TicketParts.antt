-- The ticket part allows every move exactly where end on end holds of the whole ticket.
use Rattle.std.proofs.Common.{◌≡◌, ℕ, zero, suc, ◌%◌, ◌≤◌, ◌⊎◌, Bool, true, false, cond, nat_le, List, [], ◌∷◌, length, Option, Some, None, IfSome, sym, refl, ap, ◌∙◌, subst, inl, inr, arith}
use Rattle.std.proofs.lemmas.Bool.{cases_Bool, leb-true, leb-false}
use Rattle.fare_law.specs.declared.names.Carrier.{Carrier}
use Rattle.fare_law.specs.declared.rules.CombineRule.{CombineRule}
use Rattle.fare_law.specs.declared.rules.EndOnEnd.{EndOnEnd}
use Rattle.fare_law.specs.declared.rules.EndOnEnd.TheVariants.{Free, SameCarrier, Never}
use Rattle.fare_law.specs.declared.tickets.Piece.{Piece}
use Rattle.fare_law.specs.Lists.{Each}
use Rattle.open_unit.specs.declared.marks.CarrierMark.{CarrierMark}
use Rattle.open_unit.specs.declared.marks.CarrierMark.TheVariants.{NotYet, One, Mixed}
use Rattle.residual_keys.specs.declared.parts.TicketPart.{TicketPart}
use Rattle.open_unit.specs.OpenUnits.{carrier_with}
use Rattle.residual_keys.specs.Residuals.{with_end, ends_with, one_more, part_with, PartAllows, no_part}
use Rattle.residual_keys.proofs.Marks.{end_carrier, one_carrier, OfCarrier, same_carrier_self}
use Rattle.unit_labels.specs.Labels.{labels_so_far}

-- the ticket part allows each of these components, of which the given ones begin a unit
abbrev pub PartRun : TicketPart → List Bool → List Piece → Type 0
PartRun t [] [] = Unit {0}
PartRun t [] (p ∷ ps) = ⊥
PartRun t (n ∷ ns) [] = ⊥
PartRun t (n ∷ ns) (p ∷ ps) = PartAllows (part_with t n p) × PartRun (part_with t n p) ns ps

-- which labels are new, after n labels
abbrev pub is_new : ℕ → ℕ → Bool
is_new n l = cond (nat_le l n) false true

abbrev pub news : ℕ → List ℕ → List Bool
news n [] = []
news n (l ∷ ls) = is_new n l ∷ news (labels_so_far n l) ls

-- Each fare's end on end, over these labels and fares.
abbrev pub AsksOf : List ℕ → List Piece → Piece → EndOnEnd → Type 0
AsksOf ls ps p Free = Unit {0}
AsksOf ls ps p SameCarrier = Each (OfCarrier p.fare.key.carrier) ps
AsksOf ls ps p Never = Each (λ l. l ≡ 1) ls

abbrev pub AsksHold : List ℕ → List Piece → Piece → Type 0
AsksHold ls ps p = IfSome p.rule.cat10 (λ c. AsksOf ls ps p c.end_on_end)

units_code : ℕ → ℕ
units_code zero = 0
units_code (suc zero) = 1
units_code (suc (suc n)) = 2

one_more_code : (n : ℕ) → one_more true (units_code n) ≡ units_code (suc n)
unfolding units_code
one_more_code zero = refl
one_more_code (suc zero) = refl
one_more_code (suc (suc n)) = refl

code_next : (n l : ℕ) → one_more (is_new n l) (units_code n) ≡ units_code (labels_so_far n l)
code_next n l = elim (nat_le l n) as (λ b. one_more (cond b false true) (units_code n) ≡ units_code (cond b n (suc n))) [ true ↦ refl | false ↦ one_more_code n ]

code_one : (n : ℕ) → units_code n ≡ 1 → n ≡ 1
unfolding units_code
code_one zero h = absurd (omega (arith, h))
code_one (suc zero) h = refl
code_one (suc (suc n)) h = absurd (omega (arith, h))

code_of_one : units_code 1 ≡ 1
unfolding units_code
code_of_one = refl

code_zero : units_code 0 ≡ 0
unfolding units_code
code_zero = refl

-- sums of the two asks
pub with_small : (e : EndOnEnd) (k : ℕ) → k ≤ 3 → with_end e k ≤ 3
with_small Free k h = h
with_small SameCarrier zero h = omega arith
with_small SameCarrier (suc zero) h = omega arith
with_small SameCarrier (suc (suc zero)) h = omega arith
with_small SameCarrier (suc (suc (suc zero))) h = omega arith
with_small SameCarrier (suc (suc (suc (suc k)))) h = absurd (omega arith)
with_small Never zero h = omega arith
with_small Never (suc zero) h = omega arith
with_small Never (suc (suc zero)) h = omega arith
with_small Never (suc (suc (suc zero))) h = omega arith
with_small Never (suc (suc (suc (suc k)))) h = absurd (omega arith)

odd_with : (e : EndOnEnd) (k : ℕ) → k ≤ 3 → with_end e k % 2 ≡ 1 → (k % 2 ≡ 1) ⊎ (e ≡ SameCarrier)
odd_with Free k h o = inl o
odd_with SameCarrier k h o = inr refl
odd_with Never zero h o = absurd (omega (arith, o))
odd_with Never (suc zero) h o = inl refl
odd_with Never (suc (suc zero)) h o = absurd (omega (arith, o))
odd_with Never (suc (suc (suc zero))) h o = inl refl
odd_with Never (suc (suc (suc (suc k)))) h o = absurd (omega arith)

two_with : (e : EndOnEnd) (k : ℕ) → k ≤ 3 → 2 ≤ with_end e k → (2 ≤ k) ⊎ (e ≡ Never)
two_with Free k h o = inl o
two_with Never k h o = inr refl
two_with SameCarrier zero h o = absurd (omega arith)
two_with SameCarrier (suc zero) h o = absurd (omega arith)
two_with SameCarrier (suc (suc zero)) h o = inl (omega arith)
two_with SameCarrier (suc (suc (suc zero))) h o = inl (omega arith)
two_with SameCarrier (suc (suc (suc (suc k)))) h o = absurd (omega arith)

odd_stays : (e : EndOnEnd) (k : ℕ) → k ≤ 3 → k % 2 ≡ 1 → with_end e k % 2 ≡ 1
odd_stays Free k h o = o
odd_stays SameCarrier zero h o = refl
odd_stays SameCarrier (suc zero) h o = refl
odd_stays SameCarrier (suc (suc zero)) h o = refl
odd_stays SameCarrier (suc (suc (suc zero))) h o = refl
odd_stays SameCarrier (suc (suc (suc (suc k)))) h o = absurd (omega arith)
odd_stays Never zero h o = absurd (omega (arith, o))
odd_stays Never (suc zero) h o = refl
odd_stays Never (suc (suc zero)) h o = absurd (omega (arith, o))
odd_stays Never (suc (suc (suc zero))) h o = refl
odd_stays Never (suc (suc (suc (suc k)))) h o = absurd (omega arith)

odd_comes : (k : ℕ) → k ≤ 3 → with_end SameCarrier k % 2 ≡ 1
odd_comes zero h = refl
odd_comes (suc zero) h = refl
odd_comes (suc (suc zero)) h = refl
odd_comes (suc (suc (suc zero))) h = refl
odd_comes (suc (suc (suc (suc k)))) h = absurd (omega arith)

two_stays : (e : EndOnEnd) (k : ℕ) → k ≤ 3 → 2 ≤ k → 2 ≤ with_end e k
two_stays Free k h o = o
two_stays SameCarrier zero h o = absurd (omega arith)
two_stays SameCarrier (suc zero) h o = absurd (omega arith)
two_stays SameCarrier (suc (suc zero)) h o = omega arith
two_stays SameCarrier (suc (suc (suc zero))) h o = omega arith
two_stays SameCarrier (suc (suc (suc (suc k)))) h o = absurd (omega arith)
two_stays Never zero h o = absurd (omega arith)
two_stays Never (suc zero) h o = absurd (omega arith)
two_stays Never (suc (suc zero)) h o = omega arith
two_stays Never (suc (suc (suc zero))) h o = omega arith
two_stays Never (suc (suc (suc (suc k)))) h o = absurd (omega arith)

two_comes : (k : ℕ) → k ≤ 3 → 2 ≤ with_end Never k
two_comes zero h = omega arith
two_comes (suc zero) h = omega arith
two_comes (suc (suc zero)) h = omega arith
two_comes (suc (suc (suc zero))) h = omega arith
two_comes (suc (suc (suc (suc k)))) h = absurd (omega arith)

-- the same where the rule may have no category 10
small : (c : Option CombineRule) (k : ℕ) → k ≤ 3 → ends_with c k ≤ 3
small None k h = h
small (Some c) k h = with_small c.end_on_end k h

odd_on : (c : Option CombineRule) (k : ℕ) → k ≤ 3 → k % 2 ≡ 1 → ends_with c k % 2 ≡ 1
odd_on None k h o = o
odd_on (Some c) k h o = odd_stays c.end_on_end k h o

two_on : (c : Option CombineRule) (k : ℕ) → k ≤ 3 → 2 ≤ k → 2 ≤ ends_with c k
two_on None k h o = o
two_on (Some c) k h o = two_stays c.end_on_end k h o

-- the part after these components
abbrev pub end_part : TicketPart → List Bool → List Piece → TicketPart
end_part t [] [] = t
end_part t [] (p ∷ ps) = t
end_part t (n ∷ ns) [] = t
end_part t (n ∷ ns) (p ∷ ps) = end_part (part_with t n p) ns ps

end_allows : (t : TicketPart) (ns : List Bool) (ps : List Piece) → PartAllows t → PartRun t ns ps → PartAllows (end_part t ns ps)
end_allows t [] [] a r = a
end_allows t [] (p ∷ ps) a r = a
end_allows t (n ∷ ns) [] a r = a
end_allows t (n ∷ ns) (p ∷ ps) a r = end_allows (part_with t n p) ns ps r.0 r.1

end_odd : (t : TicketPart) (ns : List Bool) (ps : List Piece) → t.ends ≤ 3 → t.ends % 2 ≡ 1 → (end_part t ns ps).ends % 2 ≡ 1
end_odd t [] [] h o = o
end_odd t [] (p ∷ ps) h o = o
end_odd t (n ∷ ns) [] h o = o
end_odd t (n ∷ ns) (p ∷ ps) h o = end_odd (part_with t n p) ns ps (small p.rule.cat10 t.ends h) (odd_on p.rule.cat10 t.ends h o)

end_two : (t : TicketPart) (ns : List Bool) (ps : List Piece) → t.ends ≤ 3 → 2 ≤ t.ends → 2 ≤ (end_part t ns ps).ends
end_two t [] [] h o = o
end_two t [] (p ∷ ps) h o = o
end_two t (n ∷ ns) [] h o = o
end_two t (n ∷ ns) (p ∷ ps) h o = end_two (part_with t n p) ns ps (small p.rule.cat10 t.ends h) (two_on p.rule.cat10 t.ends h o)

-- what the fares ask reaches the end
Reaches : TicketPart → Piece → Type 0
Reaches e p = IfSome p.rule.cat10 (λ c. (c.end_on_end ≡ SameCarrier → e.ends % 2 ≡ 1) × (c.end_on_end ≡ Never → 2 ≤ e.ends))

reaches : (t : TicketPart) (ns : List Bool) (ps : List Piece) → length ns ≡ length ps → t.ends ≤ 3 → Each (Reaches (end_part t ns ps)) ps
unfolding Reaches
reaches t [] [] l h = tt
reaches t [] (p ∷ ps) l h = absurd (omega arith)
reaches t (n ∷ ns) [] l h = tt
reaches t (n ∷ ns) (p ∷ ps) l h = (here p.rule.cat10 refl, reaches (part_with t n p) ns ps (omega arith) (small p.rule.cat10 t.ends h))
  where
    here : (c : Option CombineRule) → p.rule.cat10 ≡ c → IfSome c (λ c. (c.end_on_end ≡ SameCarrier → (end_part (part_with t n p) ns ps).ends % 2 ≡ 1) × (c.end_on_end ≡ Never → 2 ≤ (end_part (part_with t n p) ns ps).ends))
    here None e = tt
    here (Some c) e = (
      λ s. end_odd (part_with t n p) ns ps (small p.rule.cat10 t.ends h) (ap (λ x. ends_with x t.ends % 2) e ∙ ap (λ x. with_end x t.ends % 2) s ∙ odd_comes t.ends h),
      λ s. end_two (part_with t n p) ns ps (small p.rule.cat10 t.ends h) (subst (λ x. 2 ≤ ends_with x t.ends) (sym e) (subst (λ x. 2 ≤ with_end x t.ends) (sym s) (two_comes t.ends h))),
    )

end_carrier_is : (t : TicketPart) (ns : List Bool) (ps : List Piece) → length ns ≡ length ps → (end_part t ns ps).carrier ≡ end_carrier t.carrier ps
end_carrier_is t [] [] l = refl
end_carrier_is t [] (p ∷ ps) l = absurd (omega arith)
end_carrier_is t (n ∷ ns) [] l = refl
end_carrier_is t (n ∷ ns) (p ∷ ps) l = end_carrier_is (part_with t n p) ns ps (omega arith)

-- the labels so far at the end
abbrev pub end_labels : ℕ → List ℕ → ℕ
end_labels n [] = n
end_labels n (l ∷ ls) = end_labels (labels_so_far n l) ls

labels_grow : (n l : ℕ) → n ≤ labels_so_far n l
labels_grow n l = elim (nat_le l n) as (λ b. n ≤ cond b n (suc n)) [ true ↦ omega arith | false ↦ omega arith ]

end_grows : (n : ℕ) (ls : List ℕ) → n ≤ end_labels n ls
end_grows n [] = omega arith
end_grows n (l ∷ ls) = omega (arith, labels_grow n l, end_grows (labels_so_far n l) ls)

end_units : (t : TicketPart) (n : ℕ) (ls : List ℕ) (ps : List Piece) → length ls ≡ length ps → t.units ≡ units_code n → (end_part t (news n ls) ps).units ≡ units_code (end_labels n ls)
end_units t n [] [] l h = h
end_units t n [] (p ∷ ps) l h = absurd (omega arith)
end_units t n (k ∷ ls) [] l h = absurd (omega arith)
end_units t n (k ∷ ls) (p ∷ ps) l h = end_units (part_with t (is_new n k) p) (labels_so_far n k) ls ps (omega arith) (ap (one_more (is_new n k)) h ∙ code_next n k)

-- labels in order of first appearance
abbrev pub InOrder : ℕ → List ℕ → Type 0
InOrder n [] = Unit {0}
InOrder n (l ∷ ls) = (1 ≤ l) × (l ≤ suc n) × InOrder (labels_so_far n l) ls

within_labels : (n l : ℕ) → l ≤ suc n → l ≤ labels_so_far n l
within_labels n l h = elim (cases_Bool (nat_le l n)) [
  | inl t ↦ subst (λ b. l ≤ cond b n (suc n)) (sym t) (leb-true l n t)
  | inr f ↦ subst (λ b. l ≤ cond b n (suc n)) (sym f) h
]

all_one : (n : ℕ) (ls : List ℕ) → InOrder n ls → end_labels n ls ≡ 1 → Each (λ l. l ≡ 1) ls
all_one n [] o e = tt
all_one n (l ∷ ls) o e = (omega (arith, o.0, within_labels n l o.1, end_grows (labels_so_far n l) ls, e), all_one (labels_so_far n l) ls o.2 e)

same_all : (c : Carrier) (ps : List Piece) → Each (OfCarrier c) ps → Each (λ p. Each (OfCarrier p.fare.key.carrier) ps) ps
same_all c ps h = go ps h
  where
    go : (qs : List Piece) → Each (OfCarrier c) qs → Each (λ p. Each (OfCarrier p.fare.key.carrier) ps) qs
    go [] k = tt
    go (q ∷ qs) k = (subst (λ x. Each (OfCarrier x) ps) (sym k.0) h, go qs k.1)

-- Where the part allows each move, end on end holds.
pub part_run_asks : (ls : List ℕ) (ps : List Piece) → length ls ≡ length ps → InOrder 0 ls → PartRun no_part (news 0 ls) ps → Each (AsksHold ls ps) ps
unfolding Reaches
part_run_asks ls [] l o r = tt
part_run_asks ls (p ∷ ps) l o r = go (p ∷ ps) (reaches no_part (news 0 ls) (p ∷ ps) (len 0 ls ∙ l) (omega arith)) same
  where
    len : (n : ℕ) (ls : List ℕ) → length (news n ls) ≡ length ls
    len n [] = refl
    len n (l ∷ ls) = ap suc (len (labels_so_far n l) ls)

    end : TicketPart
    end = end_part no_part (news 0 ls) (p ∷ ps)

    allows : PartAllows (end_part no_part (news 0 ls) (p ∷ ps))
    allows = end_allows no_part (news 0 ls) (p ∷ ps) (λ a. absurd (omega (arith, a)), λ a. absurd (omega arith)) r

    carriers : (end_part no_part (news 0 ls) (p ∷ ps)).ends % 2 ≡ 1 → Each (OfCarrier p.fare.key.carrier) (p ∷ ps)
    carriers h = let m = allows.0 h in (refl, one_carrier p.fare.key.carrier m.0 ps (sym (end_carrier_is no_part (news 0 ls) (p ∷ ps) (len 0 ls ∙ l)) ∙ m.1))

    same : (end_part no_part (news 0 ls) (p ∷ ps)).ends % 2 ≡ 1 → Each (λ q. Each (OfCarrier q.fare.key.carrier) (p ∷ ps)) (p ∷ ps)
    same h = same_all p.fare.key.carrier (p ∷ ps) (carriers h)

    ones : 2 ≤ (end_part no_part (news 0 ls) (p ∷ ps)).ends → Each (λ l. l ≡ 1) ls
    ones h = all_one 0 ls o (code_one (end_labels 0 ls) (sym (end_units no_part 0 ls (p ∷ ps) l (sym code_zero)) ∙ allows.1 h))

    asks : (q : Piece) (c : Option CombineRule)
        → IfSome c (λ c. (c.end_on_end ≡ SameCarrier → (end_part no_part (news 0 ls) (p ∷ ps)).ends % 2 ≡ 1) × (c.end_on_end ≡ Never → 2 ≤ (end_part no_part (news 0 ls) (p ∷ ps)).ends))
        → ((end_part no_part (news 0 ls) (p ∷ ps)).ends % 2 ≡ 1 → Each (OfCarrier q.fare.key.carrier) (p ∷ ps)) → IfSome c (λ c. AsksOf ls (p ∷ ps) q c.end_on_end)
    asks q None h k = tt
    asks q (Some c) h k = step c.end_on_end h.0 h.1
      where
        step : (e : EndOnEnd) → (e ≡ SameCarrier → (end_part no_part (news 0 ls) (p ∷ ps)).ends % 2 ≡ 1) → (e ≡ Never → 2 ≤ (end_part no_part (news 0 ls) (p ∷ ps)).ends) → AsksOf ls (p ∷ ps) q e
        step Free a b = tt
        step SameCarrier a b = k (a refl)
        step Never a b = ones (b refl)

    go : (qs : List Piece) → Each (Reaches (end_part no_part (news 0 ls) (p ∷ ps))) qs → ((end_part no_part (news 0 ls) (p ∷ ps)).ends % 2 ≡ 1 → Each (λ q. Each (OfCarrier q.fare.key.carrier) (p ∷ ps)) qs) → Each (AsksHold ls (p ∷ ps)) qs
    go [] h k = tt
    go (q ∷ qs) h k = (asks q q.rule.cat10 h.0 (λ e. (k e).0), go qs h.1 (λ e. (k e).1))

-- what is known of the part along the way: what is asked so far holds of the whole ticket
record SoFar (n : ℕ) (ls : List ℕ) (ps : List Piece) (t : TicketPart) : Type 0 where
  small' : t.ends ≤ 3
  odd : t.ends % 2 ≡ 1 → (c : Carrier) × Each (OfCarrier c) ps
  two : 2 ≤ t.ends → Each (λ l. l ≡ 1) ls
  units : t.units ≡ units_code n
  carrier : (c : Carrier) → Each (OfCarrier c) ps → (t.carrier ≡ NotYet) ⊎ (t.carrier ≡ One c)

odd_case : (c : Option CombineRule) (k : ℕ) → k ≤ 3 → ends_with c k % 2 ≡ 1 → (k % 2 ≡ 1) ⊎ ((r : CombineRule) × (c ≡ Some r) × (r.end_on_end ≡ SameCarrier))
odd_case None k h o = inl o
odd_case (Some r) k h o = elim (odd_with r.end_on_end k h o) [ inl a ↦ inl a | inr b ↦ inr (r, refl, b) ]

two_case : (c : Option CombineRule) (k : ℕ) → k ≤ 3 → 2 ≤ ends_with c k → (2 ≤ k) ⊎ ((r : CombineRule) × (c ≡ Some r) × (r.end_on_end ≡ Never))
two_case None k h o = inl o
two_case (Some r) k h o = elim (two_with r.end_on_end k h o) [ inl a ↦ inl a | inr b ↦ inr (r, refl, b) ]

asked : (ls : List ℕ) (ps : List Piece) (p : Piece) (r : CombineRule) (e : EndOnEnd) → p.rule.cat10 ≡ Some r → r.end_on_end ≡ e → AsksHold ls ps p → AsksOf ls ps p e
asked ls ps p r e s k h = subst (λ x. AsksOf ls ps p x) k (subst (λ c. IfSome c (λ d. AsksOf ls ps p d.end_on_end)) s h)

next_carrier : (m : CarrierMark) (c d : Carrier) → d ≡ c → (m ≡ NotYet) ⊎ (m ≡ One c) → carrier_with m d ≡ One c
next_carrier m c d e h = elim h [
  | inl a ↦ ap (λ x. carrier_with x d) a ∙ ap One e
  | inr b ↦ ap (λ x. carrier_with x d) b ∙ ap (λ x. cond x (One c) Mixed) (same_carrier_self c d (sym e))
]

next_one : (n l : ℕ) → n ≤ 1 → l ≡ 1 → labels_so_far n l ≡ 1
next_one n l h e = elim (cases_Bool (nat_le l n)) [
  | inl t ↦ subst (λ b. cond b n (suc n) ≡ 1) (sym t) (omega (arith, leb-true l n t))
  | inr f ↦ subst (λ b. cond b n (suc n) ≡ 1) (sym f) (omega (arith, leb-false l n f))
]

-- Where end on end holds, the part allows each move.
asks_run : (all : List ℕ) (every : List Piece) (n : ℕ) (t : TicketPart) (ls : List ℕ) (ps : List Piece) → length ls ≡ length ps → SoFar n all every t
    → (Each (λ l. l ≡ 1) all → Each (λ l. l ≡ 1) ls) → ((c : Carrier) → Each (OfCarrier c) every → Each (OfCarrier c) ps) → (Each (λ l. l ≡ 1) all → n ≤ 1)
    → Each (AsksHold all every) ps → PartRun t (news n ls) ps
asks_run all every n t [] [] l s a c b h = tt
asks_run all every n t [] (p ∷ ps) l s a c b h = absurd (omega arith)
asks_run all every n t (k ∷ ls) [] l s a c b h = absurd (omega arith)
asks_run all every n t (k ∷ ls) (p ∷ ps) l s a c b h =
    let one : Each (λ l. l ≡ 1) all → labels_so_far n k ≡ 1 = λ w. next_one n k (b w) (a w).0 in
    let mark : (d : Carrier) → Each (OfCarrier d) every → carrier_with t.carrier p.fare.key.carrier ≡ One d = λ d w. next_carrier t.carrier d p.fare.key.carrier (c d w).0 (s.carrier d w) in
    let odd' : ends_with p.rule.cat10 t.ends % 2 ≡ 1 → (d : Carrier) × Each (OfCarrier d) every = λ w. elim (odd_case p.rule.cat10 t.ends s.small' w) [
      | inl x ↦ s.odd x
      | inr x ↦ (p.fare.key.carrier, asked all every p x.0 SameCarrier x.1 x.2 h.0)
    ] in
    let two' : 2 ≤ ends_with p.rule.cat10 t.ends → Each (λ l. l ≡ 1) all = λ w. elim (two_case p.rule.cat10 t.ends s.small' w) [
      | inl x ↦ s.two x
      | inr x ↦ asked all every p x.0 Never x.1 x.2 h.0
    ] in
    let code : one_more (is_new n k) t.units ≡ units_code (labels_so_far n k) = ap (one_more (is_new n k)) s.units ∙ code_next n k in (
      (λ w. let d = odd' w in (d.0, mark d.0 d.1), λ w. code ∙ ap units_code (one (two' w)) ∙ code_of_one),
      asks_run all every (labels_so_far n k) (part_with t (is_new n k) p) ls ps (omega arith)
          (record { small' = small p.rule.cat10 t.ends s.small'; odd = odd'; two = two'; units = code; carrier = λ d w. inr (mark d w) })
          (λ w. (a w).1) (λ d w. (c d w).1) (λ w. omega (arith, one w)) h.1,
    )

pub asks_part_run : (ls : List ℕ) (ps : List Piece) → length ls ≡ length ps → Each (AsksHold ls ps) ps → PartRun no_part (news 0 ls) ps
asks_part_run ls ps l h =
    asks_run ls ps 0 no_part ls ps l
    (record { small' = omega arith; odd = λ w. absurd (omega (arith, w)); two = λ w. absurd (omega arith); units = sym code_zero; carrier = λ d w. inl refl })
    (λ w. w) (λ d w. w) (λ w. omega arith) h
