-- The comparison of residuals tells which stands before the other, and which are one.
use Rattle.std.proofs.Common.{◌≡◌, ◌↔◌, ℕ, ℤ, ◌≤◌, List, [], ◌∷◌, length, slice_get, Option, Some, None, Ordering, Less, Equal, Greater, nat_cmp, int_cmp, sym, refl, ap, ap₂, subst, inl, inr, arith}
use Rattle.std.proofs.lemmas.Cmp.{ranked, int_ranked}
use Rattle.std.specs.Cmp.Lexicographic.{slice_cmp}
use Rattle.std.specs.Option.{option_cmp}
use Rattle.std.specs.Ordering.{MatchOrdering, ordering_then}
use Rattle.fare_law.specs.declared.names.Carrier.{Carrier}
use Rattle.fare_law.specs.declared.names.Place.{Place}
use Rattle.fare_law.specs.contracts.names.PlaceOrd.TheImpl as place
use Rattle.fare_law.specs.contracts.names.CarrierOrd.TheImpl as carrier
use Rattle.flight_paths.specs.declared.positions.Position.{Position}
use Rattle.flight_paths.specs.contracts.positions.PositionOrd.TheImpl as position
use Rattle.open_unit.specs.declared.marks.CarrierMark.{CarrierMark}
use Rattle.open_unit.specs.declared.marks.CarrierMark.TheVariants.{NotYet, One, Mixed}
use Rattle.open_unit.specs.declared.marks.RuleMark.{RuleMark}
use Rattle.open_unit.specs.declared.marks.RuleMark.TheVariants.{One as OneRule, Mixed as MixedRules}
use Rattle.open_unit.specs.declared.units.OpenUnit.{OpenUnit}
use Rattle.open_unit.specs.contracts.marks.CarrierMarkOrd.TheImpl as carriers
use Rattle.open_unit.specs.contracts.marks.RuleMarkOrd.TheImpl as rules
use Rattle.open_unit.specs.contracts.units.OpenUnitOrd.TheImpl as unit
use Rattle.residual_keys.specs.contracts.parts.TicketPartOrd.TheImpl as part
use Rattle.residual_keys.specs.contracts.residual.ResidualOrd.TheImpl as residual
use Rattle.residual_keys.specs.declared.parts.TicketPart.{TicketPart}
use Rattle.residual_keys.specs.Kept.{IsResidual}
use Rattle.residual_keys.specs.ResidualOrder.{FieldBefore, OptionBefore, ListBefore, NumberBefore, DayBefore, PlaceBefore, CarrierBefore, CarriersBefore, RulesBefore, PositionBefore, UnitBefore, PartBefore, StateBefore}
use Rattle.residual_keys.specs.Residuals.{State}
use Rattle.residual_keys.proofs.Ordered.{states, unit_one}

-- the answer of a comparison tells the order
abbrev Tells : {X : Type 0} → Ordering → (X → X → Type 0) → X → X → Type 0
Tells o Below x y = MatchOrdering o (Below x y) (x ≡ y) (Below y x)

-- a comparison of some fields, up to these
record Compares {X : Type 0} (C : X → X → Ordering) (Below Same : X → X → Type 0) : Type 0 where
  tells : (x y : X) → MatchOrdering (C x y) (Below x y) (Same x y) (Below y x)

last : {X Y : Type 0} (f : X → Y) (D : Y → Y → Ordering) (B : Y → Y → Type 0) → ((x y : Y) → Tells (D x y) B x y) → Compares (λ x y. D (f x) (f y)) (λ x y. B (f x) (f y)) (λ x y. f x ≡ f y)
last f D B h = record { tells = λ x y. h (f x) (f y) }

-- a field, and those that follow
then : {X Y : Type 0} (f : X → Y) (D : Y → Y → Ordering) (B : Y → Y → Type 0) (C : X → X → Ordering) (S Q : X → X → Type 0) → ((x y : Y) → Tells (D x y) B x y) → Compares C S Q
    → Compares (λ x y. ordering_then (D (f x) (f y)) (C x y)) (λ x y. FieldBefore B (f x) (f y) (S x y)) (λ x y. (f x ≡ f y) × Q x y)
then {X} f D B C S Q h k = record { tells = λ x y. go x y (D (f x) (f y)) (C x y) (h (f x) (f y)) (k.tells x y) }
  where
    go : (x y : X) (o p : Ordering) → Tells o B (f x) (f y) → MatchOrdering p (S x y) (Q x y) (S y x)
        → MatchOrdering (ordering_then o p) (FieldBefore B (f x) (f y) (S x y)) ((f x ≡ f y) × Q x y) (FieldBefore B (f y) (f x) (S y x))
    go x y Less p h k = inl h
    go x y Greater p h k = inl h
    go x y Equal Less h k = inr (h, k)
    go x y Equal Equal h k = (h, k)
    go x y Equal Greater h k = inr (sym h, k)

whole : {X : Type 0} (C : X → X → Ordering) (B S : X → X → Type 0) → Compares C B S → ((x y : X) → S x y → x ≡ y) → (x y : X) → Tells (C x y) B x y
whole C B S h same x y = go (C x y) (h.tells x y)
  where
    go : (o : Ordering) → MatchOrdering o (B x y) (S x y) (B y x) → Tells o B x y
    go Less k = k
    go Equal k = same x y k
    go Greater k = k

options : {X : Type 0} (C : X → X → Ordering) (B : X → X → Type 0) → ((x y : X) → Tells (C x y) B x y) → (x y : Option X) → Tells (option_cmp C x y) (OptionBefore B) x y
options C B h None None = refl
options C B h None (Some y) = tt
options C B h (Some x) None = tt
options C B h (Some x) (Some y) = go (C x y) (h x y)
  where
    go : (o : Ordering) → Tells o B x y → Tells o (OptionBefore B) (Some x) (Some y)
    go Less k = k
    go Equal k = ap Some k
    go Greater k = k

list_step : {X : Type 0} (B : X → X → Type 0) (x y : X) (xs ys : List X) (o p : Ordering) → Tells o B x y → Tells p (ListBefore B) xs ys → Tells (ordering_then o p) (ListBefore B) (x ∷ xs) (y ∷ ys)
list_step B x y xs ys Less p h k = inl h
list_step B x y xs ys Greater p h k = inl h
list_step B x y xs ys Equal Less h k = inr (h, k)
list_step B x y xs ys Equal Equal h k = ap₂ (λ z zs. z ∷ zs) h k
list_step B x y xs ys Equal Greater h k = inr (sym h, k)

lists : {X : Type 0} (C : X → X → Ordering) (B : X → X → Type 0) → ((x y : X) → Tells (C x y) B x y) → (xs ys : List X) → Tells (slice_cmp C xs ys) (ListBefore B) xs ys
lists C B h [] [] = refl
lists C B h [] (y ∷ ys) = tt
lists C B h (x ∷ xs) [] = tt
lists C B h (x ∷ xs) (y ∷ ys) = list_step B x y xs ys (C x y) (slice_cmp C xs ys) (h x y) (lists C B h xs ys)

numbers : (x y : ℕ) → Tells (nat_cmp x y) NumberBefore x y
numbers x y = ranked x y (nat_cmp x y) refl

days : (x y : ℤ) → Tells (int_cmp x y) DayBefore x y
days x y = int_ranked x y (int_cmp x y) refl

places : (x y : Place) → Tells (place.cmp-value.it x y) PlaceBefore x y
places = whole place.cmp-value.it PlaceBefore _ (last (λ p. p.0) (slice_cmp nat_cmp) (ListBefore NumberBefore) (lists nat_cmp NumberBefore numbers)) (λ x y e. λ i. record { 0 = e i })

carrier_names : (x y : Carrier) → Tells (carrier.cmp-value.it x y) CarrierBefore x y
carrier_names = whole carrier.cmp-value.it CarrierBefore _ (last (λ p. p.0) (slice_cmp nat_cmp) (ListBefore NumberBefore) (lists nat_cmp NumberBefore numbers)) (λ x y e. λ i. record { 0 = e i })

carrier_marks : (x y : CarrierMark) → Tells (carriers.cmp-value.it x y) CarriersBefore x y
carrier_marks NotYet NotYet = refl
carrier_marks NotYet (One d) = tt
carrier_marks NotYet Mixed = tt
carrier_marks (One c) NotYet = tt
carrier_marks (One c) (One d) = go (carrier.cmp-value.it c d) (carrier_names c d)
  where
    go : (o : Ordering) → Tells o CarrierBefore c d → Tells o CarriersBefore (One c) (One d)
    go Less k = k
    go Equal k = ap One k
    go Greater k = k
carrier_marks (One c) Mixed = tt
carrier_marks Mixed NotYet = tt
carrier_marks Mixed (One d) = tt
carrier_marks Mixed Mixed = refl

rule_marks : (x y : RuleMark) → Tells (rules.cmp-value.it x y) RulesBefore x y
rule_marks (OneRule m) (OneRule n) = go (nat_cmp m n) (numbers m n)
  where
    go : (o : Ordering) → Tells o NumberBefore m n → Tells o RulesBefore (OneRule m) (OneRule n)
    go Less k = k
    go Equal k = ap OneRule k
    go Greater k = k
rule_marks (OneRule m) MixedRules = tt
rule_marks MixedRules (OneRule n) = tt
rule_marks MixedRules MixedRules = refl

positions : (a c : Position) → Tells (position.cmp-value.it a c) PositionBefore a c
positions =
    whole position.cmp-value.it PositionBefore _
    (then (λ z. z.slice) nat_cmp NumberBefore _ _ _ numbers
    (then (λ z. z.leg) nat_cmp NumberBefore _ _ _ numbers
    (then (λ z. z.place) place.cmp-value.it PlaceBefore _ _ _ places
    (then (λ z. z.via) (option_cmp place.cmp-value.it) (OptionBefore PlaceBefore) _ _ _ (options place.cmp-value.it PlaceBefore places)
    (then (λ z. z.lo) nat_cmp NumberBefore _ _ _ numbers
    (last (λ z. z.hi) nat_cmp NumberBefore numbers))))))
    (λ a c e. λ i. record { slice = e.0 i; leg = e.1.0 i; place = e.1.1.0 i; via = e.1.1.1.0 i; lo = e.1.1.1.1.0 i; hi = e.1.1.1.1.1 i })

units : (u v : OpenUnit) → Tells (unit.cmp-value.it u v) UnitBefore u v
units =
    whole unit.cmp-value.it UnitBefore _
    (then (λ z. z.origin) place.cmp-value.it PlaceBefore _ _ _ places
    (then (λ z. z.end) place.cmp-value.it PlaceBefore _ _ _ places
    (then (λ z. z.count) nat_cmp NumberBefore _ _ _ numbers
    (then (λ z. z.first_day) int_cmp DayBefore _ _ _ days
    (then (λ z. z.least) (option_cmp int_cmp) (OptionBefore DayBefore) _ _ _ (options int_cmp DayBefore days)
    (then (λ z. z.greatest) (option_cmp int_cmp) (OptionBefore DayBefore) _ _ _ (options int_cmp DayBefore days)
    (then (λ z. z.by) (option_cmp int_cmp) (OptionBefore DayBefore) _ _ _ (options int_cmp DayBefore days)
    (then (λ z. z.kinds) nat_cmp NumberBefore _ _ _ numbers
    (then (λ z. z.partner) nat_cmp NumberBefore _ _ _ numbers
    (then (λ z. z.carrier) carriers.cmp-value.it CarriersBefore _ _ _ carrier_marks
    (last (λ z. z.rule) rules.cmp-value.it RulesBefore rule_marks)))))))))))
    unit_one

parts : (s t : TicketPart) → Tells (part.cmp-value.it s t) PartBefore s t
parts =
    whole part.cmp-value.it PartBefore _
    (then (λ z. z.units) nat_cmp NumberBefore _ _ _ numbers
    (then (λ z. z.ends) nat_cmp NumberBefore _ _ _ numbers
    (last (λ z. z.carrier) carriers.cmp-value.it CarriersBefore carrier_marks)))
    (λ s t e. λ i. record { units = e.0 i; ends = e.1.0 i; carrier = e.1.1 i })

-- the two places of open units, as their list
two_units : (us vs : List OpenUnit) → length us ≤ 2 → length vs ≤ 2
    → Tells (ordering_then (option_cmp unit.cmp-value.it (slice_get us 0) (slice_get vs 0)) (option_cmp unit.cmp-value.it (slice_get us 1) (slice_get vs 1))) (ListBefore UnitBefore) us vs
two_units [] [] a b = refl
two_units [] (v ∷ []) a b = tt
two_units [] (v ∷ w ∷ vs) a b = tt
two_units (u ∷ []) [] a b = tt
two_units (u ∷ t ∷ us) [] a b = tt
two_units (u ∷ []) (v ∷ []) a b = list_step UnitBefore u v [] [] (unit.cmp-value.it u v) Equal (units u v) refl
two_units (u ∷ []) (v ∷ w ∷ vs) a b = list_step UnitBefore u v [] (w ∷ vs) (unit.cmp-value.it u v) Less (units u v) tt
two_units (u ∷ t ∷ us) (v ∷ []) a b = list_step UnitBefore u v (t ∷ us) [] (unit.cmp-value.it u v) Greater (units u v) tt
two_units (u ∷ t ∷ []) (v ∷ w ∷ []) a b =
    list_step UnitBefore u v (t ∷ []) (w ∷ []) (unit.cmp-value.it u v) (unit.cmp-value.it t w) (units u v) (single (unit.cmp-value.it t w) (units t w))
  where
    single : (o : Ordering) → Tells o UnitBefore t w → Tells o (ListBefore UnitBefore) (t ∷ []) (w ∷ [])
    single Less k = inl k
    single Equal k = ap (λ z. z ∷ []) k
    single Greater k = inl k
two_units (u ∷ t ∷ []) (v ∷ w ∷ z ∷ vs) a b = absurd (omega (arith, b))
two_units (u ∷ t ∷ s ∷ us) (v ∷ w ∷ vs) a b = absurd (omega (arith, a))

residuals : (x y : State) → IsResidual x → IsResidual y → Tells (residual.cmp-value.it x y) StateBefore x y
residuals x y h k =
    let first = option_cmp unit.cmp-value.it (slice_get x.units 0) (slice_get y.units 0) in
    let second = option_cmp unit.cmp-value.it (slice_get x.units 1) (slice_get y.units 1) in
    subst (λ o. Tells o StateBefore x y) (ap (λ o. ordering_then (position.cmp-value.it x.at y.at) o) (joined first second (part.cmp-value.it x.part y.part)))
    (go (position.cmp-value.it x.at y.at) (ordering_then first second) (part.cmp-value.it x.part y.part) (positions x.at y.at) (two_units x.units y.units h.few k.few) (parts x.part y.part))
  where
    joined : (a b c : Ordering) → ordering_then (ordering_then a b) c ≡ ordering_then a (ordering_then b c)
    joined Less b c = refl
    joined Equal b c = refl
    joined Greater b c = refl

    go : (a b c : Ordering) → Tells a PositionBefore x.at y.at → Tells b (ListBefore UnitBefore) x.units y.units → Tells c PartBefore x.part y.part → Tells (ordering_then a (ordering_then b c)) StateBefore x y
    go Less b c p q r = inl p
    go Greater b c p q r = inl p
    go Equal Less c p q r = inr (p, inl q)
    go Equal Greater c p q r = inr (sym p, inl q)
    go Equal Equal Less p q r = inr (p, inr (q, r))
    go Equal Equal Greater p q r = inr (sym p, inr (sym q, r))
    go Equal Equal Equal p q r = λ i. record { at = p i; units = q i; part = r i }

-- of the answer, each way
less_before : (o : Ordering) (x y : State) → Tells o StateBefore x y → (o ≡ Less) ↔ StateBefore x y
less_before Less x y h = (λ e. h, λ k. refl)
less_before Equal x y h = (λ e. absurd (never e), λ k. absurd (states.never y (subst (λ z. StateBefore z y) h k)))
  where
    never : Equal ≡ Less → ⊥
    never e = cc
less_before Greater x y h = (λ e. absurd (never e), λ k. absurd (states.never x (states.trans x y x k h)))
  where
    never : Greater ≡ Less → ⊥
    never e = cc

equal_same : (o : Ordering) (x y : State) → Tells o StateBefore x y → (o ≡ Equal) ↔ (x ≡ y)
equal_same Less x y h = (λ e. absurd (never e), λ k. absurd (states.never y (subst (λ z. StateBefore z y) k h)))
  where
    never : Less ≡ Equal → ⊥
    never e = cc
equal_same Equal x y h = (λ e. h, λ k. refl)
equal_same Greater x y h = (λ e. absurd (never e), λ k. absurd (states.never y (subst (λ z. StateBefore y z) k h)))
  where
    never : Greater ≡ Equal → ⊥
    never e = cc

pub compared_before : (x y : State) → IsResidual x → IsResidual y → (residual.cmp-value.it x y ≡ Less) ↔ StateBefore x y
compared_before x y h k = less_before (residual.cmp-value.it x y) x y (residuals x y h k)

pub compared_same : (x y : State) → IsResidual x → IsResidual y → (residual.cmp-value.it x y ≡ Equal) ↔ (x ≡ y)
compared_same x y h k = equal_same (residual.cmp-value.it x y) x y (residuals x y h k)
