-- Findings in order are one list. Cited by the laws on them.
use Rattle.std.proofs.Common.{◌≡◌, ◌⊎◌, List, [], ◌∷◌, refl, sym, ap, ap₂, subst, ◌∙◌, inl, inr, arith}
use Rattle.fare_law.specs.Lists.{EachPair, IsIn}
use Rattle.fare_verdict.specs.declared.finding.Finding.{Finding}
use Rattle.fare_verdict.specs.Findings.{AreAll, Before}
use Rattle.law_lemmas.proofs.Numbers.{less_less}

through : (f x g : Finding) → Before f x → Before x g → Before f g
through f x g h k = elim h [
  | inl a ↦ inl (elim k [ inl b ↦ less_less f.rule x.rule g.rule a b | inr b ↦ let e = b.0 in omega (arith, a, e) ])
  | inr a ↦ elim k [
    | inl b ↦ inl (let e = a.0 in omega (arith, b, e))
    | inr b ↦ inr (
      a.0 ∙ b.0,
      elim a.1 [
        | inl c ↦ inl (elim b.1 [ inl d ↦ less_less f.component x.component g.component c d | inr d ↦ let e = d.0 in omega (arith, c, e) ])
        | inr c ↦ elim b.1 [
          | inl d ↦ inl (let e = c.0 in omega (arith, d, e))
          | inr d ↦ inr (c.0 ∙ d.0, less_less f.category x.category g.category c.1 d.1)
        ]
      ],
    )
  ]
]

never_itself : (f g : Finding) → f ≡ g → Before f g → ⊥
never_itself f g e h =
    let r = ap (λ (x : Finding). x.rule) e in
    let c = ap (λ (x : Finding). x.component) e in
    let k = ap (λ (x : Finding). x.category) e in
    elim h [ inl a ↦ absurd (omega (arith, a, r)) | inr a ↦ elim a.1 [ inl b ↦ absurd (omega (arith, b, c)) | inr b ↦ let z = b.1 in absurd (omega (arith, z, k)) ] ]

-- the first of a list in order stands before each other
pub first_before : (f g : Finding) (fs : List Finding) → EachPair Before (f ∷ fs) → IsIn g fs → Before f g
first_before f g [] h i = absurd i
first_before f g (x ∷ fs) h i = elim i [ inl e ↦ subst (λ y. Before f y) (sym e) h.0 | inr k ↦ through f x g h.0 (first_before x g fs h.1 k) ]

pub first_least : (f g : Finding) (fs : List Finding) → EachPair Before (f ∷ fs) → IsIn g (f ∷ fs) → (f ≡ g) ⊎ Before f g
first_least f g fs h i = elim i [ inl e ↦ inl (sym e) | inr k ↦ inr (first_before f g fs h k) ]

rest_order : (f : Finding) (fs : List Finding) → EachPair Before (f ∷ fs) → EachPair Before fs
rest_order f [] h = tt
rest_order f (x ∷ fs) h = h.1

same_lists : (fs gs : List Finding) → EachPair Before fs → EachPair Before gs → ((f : Finding) → IsIn f fs → IsIn f gs) → ((f : Finding) → IsIn f gs → IsIn f fs) → fs ≡ gs
same_lists [] [] h k to from = refl
same_lists [] (g ∷ gs) h k to from = absurd (from g (inl refl))
same_lists (f ∷ fs) [] h k to from = absurd (to f (inl refl))
same_lists (f ∷ fs) (g ∷ gs) h k to from =
    let same : f ≡ g = elim (first_least g f gs k (to f (inl refl))) [
      | inl e ↦ sym e
      | inr below ↦ elim (first_least f g fs h (from g (inl refl))) [ inl e ↦ e | inr above ↦ absurd (never_itself f f refl (through f g f above below)) ]
    ] in
    ap₂ (λ (x : Finding) (xs : List Finding). x ∷ xs) same (same_lists fs gs (rest_order f fs h) (rest_order g gs k)
    (λ x i. elim (to x (inr i)) [ inl e ↦ absurd (never_itself f x (same ∙ sym e) (first_before f x fs h i)) | inr j ↦ j ])
    (λ x i. elim (from x (inr i)) [ inl e ↦ absurd (never_itself g x (sym same ∙ sym e) (first_before g x gs k i)) | inr j ↦ j ]))

-- all findings of which something holds are one list
pub one_list : (Is : Finding → Type 0) (fs gs : List Finding) → AreAll Is fs → AreAll Is gs → fs ≡ gs
one_list Is fs gs h k = same_lists fs gs h.order k.order (λ f i. (k.each f).1 ((h.each f).0 i)) (λ f i. (h.each f).1 ((k.each f).0 i))
