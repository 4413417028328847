-- The order of residuals is strict and total. Given on to the crates above.
use Rattle.std.proofs.Common.{◌≡◌, ◌⊎◌, ℕ, ℤ, List, [], ◌∷◌, Option, Some, None, sym, refl, ap, ap₂, ◌∙◌, subst, inl, inr, arith, ◌<ℤ◌, int_cmp, Ordering, Less, Equal, Greater}
use Rattle.std.specs.Ordering.{MatchOrdering}
use Rattle.std.proofs.lemmas.Int.{ints}
use Rattle.std.proofs.lemmas.Cmp.{int_ranked}
use Rattle.std.proofs.lemmas.Bool.{cases_order}
use Rattle.open_unit.specs.declared.marks.CarrierMark.{CarrierMark}
use Rattle.open_unit.specs.declared.marks.CarrierMark.TheVariants.{NotYet, One, Mixed}
use Rattle.open_unit.specs.declared.marks.RuleMark.{RuleMark}
use Rattle.open_unit.specs.declared.marks.RuleMark.TheVariants.{One as OneRule, Mixed as MixedRules}
use Rattle.open_unit.specs.declared.units.OpenUnit.{OpenUnit}
use Rattle.residual_keys.specs.ResidualOrder.{FieldBefore, OptionBefore, ListBefore, NumberBefore, DayBefore, PlaceBefore, CarrierBefore, CarriersBefore, RulesBefore, PositionBefore, UnitBefore, PartBefore, StateBefore, IsStrictOrder}

-- a strict order on some fields, total up to these
record Orders {X : Type 0} (Below Same : X → X → Type 0) : Type 0 where
  never : (x : X) → Below x x → ⊥
  trans : (x y z : X) → Below x y → Below y z → Below x z
  total : (x y : X) → Below x y ⊎ (Same x y ⊎ Below y x)

last : {X Y : Type 0} (f : X → Y) (R : Y → Y → Type 0) → IsStrictOrder R → Orders (λ x y. R (f x) (f y)) (λ x y. f x ≡ f y)
last f R o = record { never = λ x. o.never (f x); trans = λ x y z. o.trans (f x) (f y) (f z); total = λ x y. o.total (f x) (f y) }

-- a field, and the fields that follow
before : {X Y : Type 0} (f : X → Y) (R : Y → Y → Type 0) (B S : X → X → Type 0) → IsStrictOrder R → Orders B S → Orders (λ x y. FieldBefore R (f x) (f y) (B x y)) (λ x y. (f x ≡ f y) × S x y)
before {X} f R B S o r = record { never = never; trans = trans; total = total }
  where
    never : (x : X) → FieldBefore R (f x) (f x) (B x x) → ⊥
    never x (inl h) = o.never (f x) h
    never x (inr h) = r.never x h.1

    trans : (x y z : X) → FieldBefore R (f x) (f y) (B x y) → FieldBefore R (f y) (f z) (B y z) → FieldBefore R (f x) (f z) (B x z)
    trans x y z (inl h) (inl k) = inl (o.trans (f x) (f y) (f z) h k)
    trans x y z (inl h) (inr k) = inl (subst (λ v. R (f x) v) k.0 h)
    trans x y z (inr h) (inl k) = inl (subst (λ v. R v (f z)) (sym h.0) k)
    trans x y z (inr h) (inr k) = inr (h.0 ∙ k.0, r.trans x y z h.1 k.1)

    total : (x y : X) → FieldBefore R (f x) (f y) (B x y) ⊎ (((f x ≡ f y) × S x y) ⊎ FieldBefore R (f y) (f x) (B y x))
    total x y = elim (o.total (f x) (f y)) [
      | inl h ↦ inl (inl h)
      | inr d ↦ elim d [
        | inr k ↦ inr (inr (inl k))
        | inl e ↦ elim (r.total x y) [
          | inl h ↦ inl (inr (e, h))
          | inr d ↦ elim d [ inl s ↦ inr (inl (e, s)) | inr k ↦ inr (inr (inr (sym e, k))) ]
        ]
      ]
    ]

whole : {X : Type 0} (B S : X → X → Type 0) → Orders B S → ((x y : X) → S x y → x ≡ y) → IsStrictOrder B
whole {X} B S o same = record { never = o.never; trans = o.trans; total = total }
  where
    total : (x y : X) → B x y ⊎ ((x ≡ y) ⊎ B y x)
    total x y = elim (o.total x y) [ inl h ↦ inl h | inr d ↦ elim d [ inl s ↦ inr (inl (same x y s)) | inr k ↦ inr (inr k) ] ]

numbers : IsStrictOrder NumberBefore
numbers = record { never = λ x h. omega (arith, h); trans = λ x y z h k. omega (arith, h, k); total = total }
  where
    total : (x y : ℕ) → NumberBefore x y ⊎ ((x ≡ y) ⊎ NumberBefore y x)
    total x y = elim (cases_order x y) [ inl e ↦ inr (inl e) | inr o ↦ elim o [ inl lt ↦ inl lt | inr gt ↦ inr (inr gt) ] ]

days : IsStrictOrder DayBefore
days = record { never = λ x h. grind (arith, ints, h); trans = λ x y z h k. grind (arith, ints, h, k); total = λ x y. decide x y (int_cmp x y) (int_ranked x y (int_cmp x y) refl) }
  where
    decide : (x y : ℤ) (r : Ordering) → MatchOrdering r (x <ℤ y) (x ≡ y) (y <ℤ x) → DayBefore x y ⊎ ((x ≡ y) ⊎ DayBefore y x)
    decide x y Less h = inl h
    decide x y Equal h = inr (inl h)
    decide x y Greater h = inr (inr h)

options : {X : Type 0} (R : X → X → Type 0) → IsStrictOrder R → IsStrictOrder (OptionBefore R)
options {X} R o = record { never = never; trans = trans; total = total }
  where
    never : (x : Option X) → OptionBefore R x x → ⊥
    never None h = h
    never (Some x) h = o.never x h

    trans : (x y z : Option X) → OptionBefore R x y → OptionBefore R y z → OptionBefore R x z
    trans None None z h k = absurd h
    trans None (Some y) None h k = absurd k
    trans None (Some y) (Some z) h k = tt
    trans (Some x) None z h k = absurd h
    trans (Some x) (Some y) None h k = absurd k
    trans (Some x) (Some y) (Some z) h k = o.trans x y z h k

    total : (x y : Option X) → OptionBefore R x y ⊎ ((x ≡ y) ⊎ OptionBefore R y x)
    total None None = inr (inl refl)
    total None (Some y) = inl tt
    total (Some x) None = inr (inr tt)
    total (Some x) (Some y) = elim (o.total x y) [ inl h ↦ inl h | inr d ↦ elim d [ inl e ↦ inr (inl (ap Some e)) | inr k ↦ inr (inr k) ] ]

lists_never : {X : Type 0} (R : X → X → Type 0) → IsStrictOrder R → (xs : List X) → ListBefore R xs xs → ⊥
lists_never R o [] h = h
lists_never R o (x ∷ xs) (inl h) = o.never x h
lists_never R o (x ∷ xs) (inr h) = lists_never R o xs h.1

lists_trans : {X : Type 0} (R : X → X → Type 0) → IsStrictOrder R → (xs ys zs : List X) → ListBefore R xs ys → ListBefore R ys zs → ListBefore R xs zs
lists_trans R o [] [] zs h k = absurd h
lists_trans R o [] (y ∷ ys) [] h k = absurd k
lists_trans R o [] (y ∷ ys) (z ∷ zs) h k = tt
lists_trans R o (x ∷ xs) [] zs h k = absurd h
lists_trans R o (x ∷ xs) (y ∷ ys) [] h k = absurd k
lists_trans R o (x ∷ xs) (y ∷ ys) (z ∷ zs) (inl h) (inl k) = inl (o.trans x y z h k)
lists_trans R o (x ∷ xs) (y ∷ ys) (z ∷ zs) (inl h) (inr k) = inl (subst (λ v. R x v) k.0 h)
lists_trans R o (x ∷ xs) (y ∷ ys) (z ∷ zs) (inr h) (inl k) = inl (subst (λ v. R v z) (sym h.0) k)
lists_trans R o (x ∷ xs) (y ∷ ys) (z ∷ zs) (inr h) (inr k) = inr (h.0 ∙ k.0, lists_trans R o xs ys zs h.1 k.1)

lists_total : {X : Type 0} (R : X → X → Type 0) → IsStrictOrder R → (xs ys : List X) → ListBefore R xs ys ⊎ ((xs ≡ ys) ⊎ ListBefore R ys xs)
lists_total R o [] [] = inr (inl refl)
lists_total R o [] (y ∷ ys) = inl tt
lists_total R o (x ∷ xs) [] = inr (inr tt)
lists_total R o (x ∷ xs) (y ∷ ys) = elim (o.total x y) [
  | inl h ↦ inl (inl h)
  | inr d ↦ elim d [
    | inr k ↦ inr (inr (inl k))
    | inl e ↦ elim (lists_total R o xs ys) [
      | inl h ↦ inl (inr (e, h))
      | inr d ↦ elim d [ inl s ↦ inr (inl (ap₂ (λ z zs. z ∷ zs) e s)) | inr k ↦ inr (inr (inr (sym e, k))) ]
    ]
  ]
]

pub lists : {X : Type 0} (R : X → X → Type 0) → IsStrictOrder R → IsStrictOrder (ListBefore R)
lists R o = record { never = lists_never R o; trans = lists_trans R o; total = lists_total R o }

places : IsStrictOrder PlaceBefore
places = whole PlaceBefore (λ p r. p.0 ≡ r.0) (last (λ p. p.0) (ListBefore NumberBefore) (lists NumberBefore numbers)) (λ p r e. λ i. record { 0 = e i })

carriers : IsStrictOrder CarrierBefore
carriers = whole CarrierBefore (λ p r. p.0 ≡ r.0) (last (λ p. p.0) (ListBefore NumberBefore) (lists NumberBefore numbers)) (λ p r e. λ i. record { 0 = e i })

carrier_marks : IsStrictOrder CarriersBefore
carrier_marks = record { never = never; trans = trans; total = total }
  where
    never : (x : CarrierMark) → CarriersBefore x x → ⊥
    never NotYet h = h
    never (One c) h = carriers.never c h
    never Mixed h = h

    trans : (x y z : CarrierMark) → CarriersBefore x y → CarriersBefore y z → CarriersBefore x z
    trans NotYet NotYet z h k = absurd h
    trans NotYet (One d) NotYet h k = absurd k
    trans NotYet (One d) (One e) h k = tt
    trans NotYet (One d) Mixed h k = tt
    trans NotYet Mixed NotYet h k = absurd k
    trans NotYet Mixed (One e) h k = absurd k
    trans NotYet Mixed Mixed h k = absurd k
    trans (One c) NotYet z h k = absurd h
    trans (One c) (One d) NotYet h k = absurd k
    trans (One c) (One d) (One e) h k = carriers.trans c d e h k
    trans (One c) (One d) Mixed h k = tt
    trans (One c) Mixed NotYet h k = absurd k
    trans (One c) Mixed (One e) h k = absurd k
    trans (One c) Mixed Mixed h k = absurd k
    trans Mixed NotYet z h k = absurd h
    trans Mixed (One d) z h k = absurd h
    trans Mixed Mixed z h k = absurd h

    total : (x y : CarrierMark) → CarriersBefore x y ⊎ ((x ≡ y) ⊎ CarriersBefore y x)
    total NotYet NotYet = inr (inl refl)
    total NotYet (One d) = inl tt
    total NotYet Mixed = inl tt
    total (One c) NotYet = inr (inr tt)
    total (One c) (One d) = elim (carriers.total c d) [ inl h ↦ inl h | inr d ↦ elim d [ inl e ↦ inr (inl (ap One e)) | inr k ↦ inr (inr k) ] ]
    total (One c) Mixed = inl tt
    total Mixed NotYet = inr (inr tt)
    total Mixed (One d) = inr (inr tt)
    total Mixed Mixed = inr (inl refl)

rule_marks : IsStrictOrder RulesBefore
rule_marks = record { never = never; trans = trans; total = total }
  where
    never : (x : RuleMark) → RulesBefore x x → ⊥
    never (OneRule m) h = omega (arith, h)
    never MixedRules h = h

    trans : (x y z : RuleMark) → RulesBefore x y → RulesBefore y z → RulesBefore x z
    trans (OneRule m) (OneRule n) (OneRule k) h g = omega (arith, h, g)
    trans (OneRule m) (OneRule n) MixedRules h g = tt
    trans (OneRule m) MixedRules (OneRule k) h g = absurd g
    trans (OneRule m) MixedRules MixedRules h g = absurd g
    trans MixedRules (OneRule n) z h g = absurd h
    trans MixedRules MixedRules z h g = absurd h

    total : (x y : RuleMark) → RulesBefore x y ⊎ ((x ≡ y) ⊎ RulesBefore y x)
    total (OneRule m) (OneRule n) = elim (numbers.total m n) [ inl h ↦ inl h | inr d ↦ elim d [ inl e ↦ inr (inl (ap OneRule e)) | inr k ↦ inr (inr k) ] ]
    total (OneRule m) MixedRules = inl tt
    total MixedRules (OneRule n) = inr (inr tt)
    total MixedRules MixedRules = inr (inl refl)

positions : IsStrictOrder PositionBefore
positions =
    whole PositionBefore _
    (before (λ a. a.slice) NumberBefore _ _ numbers
    (before (λ a. a.leg) NumberBefore _ _ numbers
    (before (λ a. a.place) PlaceBefore _ _ places
    (before (λ a. a.via) (OptionBefore PlaceBefore) _ _ (options PlaceBefore places)
    (before (λ a. a.lo) NumberBefore _ _ numbers
    (last (λ a. a.hi) NumberBefore numbers))))))
    (λ a c e. λ i. record { slice = e.0 i; leg = e.1.0 i; place = e.1.1.0 i; via = e.1.1.1.0 i; lo = e.1.1.1.1.0 i; hi = e.1.1.1.1.1 i })

-- open units are one where their fields are, in the order of their comparison
abbrev SameFields : OpenUnit → OpenUnit → Type 0
SameFields u v =
    (u.origin ≡ v.origin) × ((u.end ≡ v.end) × ((u.count ≡ v.count) × ((u.first_day ≡ v.first_day) × ((u.least ≡ v.least) × ((u.greatest ≡ v.greatest) × ((u.by ≡ v.by) × ((u.kinds ≡ v.kinds) × ((u.partner ≡ v.partner) × ((u.carrier ≡ v.carrier) × (u.rule ≡ v.rule))))))))))

pub unit_one : (u v : OpenUnit) → SameFields u v → u ≡ v
unit_one u v e = λ i. record {
  origin = e.0 i;
  end = e.1.0 i;
  count = e.1.1.0 i;
  first_day = e.1.1.1.0 i;
  least = e.1.1.1.1.0 i;
  greatest = e.1.1.1.1.1.0 i;
  by = e.1.1.1.1.1.1.0 i;
  kinds = e.1.1.1.1.1.1.1.0 i;
  partner = e.1.1.1.1.1.1.1.1.0 i;
  carrier = e.1.1.1.1.1.1.1.1.1.0 i;
  rule = e.1.1.1.1.1.1.1.1.1.1 i;
}

units : IsStrictOrder UnitBefore
units =
    whole UnitBefore _
    (before (λ u. u.origin) PlaceBefore _ _ places
    (before (λ u. u.end) PlaceBefore _ _ places
    (before (λ u. u.count) NumberBefore _ _ numbers
    (before (λ u. u.first_day) DayBefore _ _ days
    (before (λ u. u.least) (OptionBefore DayBefore) _ _ (options DayBefore days)
    (before (λ u. u.greatest) (OptionBefore DayBefore) _ _ (options DayBefore days)
    (before (λ u. u.by) (OptionBefore DayBefore) _ _ (options DayBefore days)
    (before (λ u. u.kinds) NumberBefore _ _ numbers
    (before (λ u. u.partner) NumberBefore _ _ numbers
    (before (λ u. u.carrier) CarriersBefore _ _ carrier_marks
    (last (λ u. u.rule) RulesBefore rule_marks)))))))))))
    unit_one

parts : IsStrictOrder PartBefore
parts =
    whole PartBefore _
    (before (λ t. t.units) NumberBefore _ _ numbers
    (before (λ t. t.ends) NumberBefore _ _ numbers
    (last (λ t. t.carrier) CarriersBefore carrier_marks)))
    (λ a c e. λ i. record { units = e.0 i; ends = e.1.0 i; carrier = e.1.1 i })

pub states : IsStrictOrder StateBefore
states =
    whole StateBefore _
    (before (λ x. x.at) PositionBefore _ _ positions
    (before (λ x. x.units) (ListBefore UnitBefore) _ _ (lists UnitBefore units)
    (last (λ x. x.part) PartBefore parts)))
    (λ x y e. λ i. record { at = e.0 i; units = e.1.0 i; part = e.1.1 i })
