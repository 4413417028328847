-- What a step leaves by numbers is what its mark leaves.
use Rattle.std.proofs.Common.{◌≡◌, ◌≢◌, ◌∙◌, ℕ, zero, suc, ◌<◌, ◌≤◌, Bool, true, false, List, [], ◌∷◌, ◌++◌, length, map, set, remove, slice_get, Option, Some, None, IfNone, IfSome, unwrap_or, refl, sym, ap, subst, arith}
use Rattle.std.proofs.lemmas.List.{map-append}
use Rattle.flight_paths.specs.declared.positions.Position.{Position}
use Rattle.graph_walk.specs.declared.outcome.Outcome.{Outcome}
use Rattle.graph_walk.specs.Steps.{LeadToLive}
use Rattle.open_unit.specs.declared.units.OpenUnit.{OpenUnit}
use Rattle.open_unit.specs.OpenUnits.{carrier_with}
use Rattle.outlines.specs.declared.marks.Listed.{Listed}
use Rattle.outlines.specs.Marks.{part_by, units_by}
use Rattle.residual_keys.specs.declared.parts.TicketPart.{TicketPart}
use Rattle.residual_keys.specs.declared.residual.Next.TheVariants.{At}
use Rattle.residual_keys.specs.Kept.{PartKept}
use Rattle.residual_keys.specs.Residuals.{PartAllows, State, one_more, with_end}
use Rattle.residual_keys.specs.Steps.{left_at}
use Rattle.residual_table.specs.declared.key.ResidualKey.{ResidualKey}
use Rattle.residual_table.specs.Keys.{IsLive, IsSlot, StandsFor, Tables as Numbers, nowhere, units_of}
use Rattle.residual_table.proofs.KeyFacts.{Slots, slots, slots_back}
use Rattle.residual_table.proofs.KeyFacts.Slots.{neither, one, both}
use Rattle.search_steps.specs.declared.numbered.Step.{Step}
use Rattle.search_steps.specs.Giving.{LeftBy, OpenedBy, UnitBy}
use Rattle.search_steps.specs.Numbers.{Adds, AddsLeft, AddsOne, IsStep, key_after, next_at, part_after, tried_in, tried_of}
use Rattle.search_steps.proofs.Bridge.{live_more}
use Rattle.search_steps.proofs.Given.{left_had, left_not, opened_had, opened_not, unit_had}

slot_empty : {X : Type 0} (xs : List X) (n : ℕ) (o : Option X) → IsSlot xs n o → n ≡ 0 → o ≡ None
slot_empty xs n None i e = refl
slot_empty xs n (Some x) i e = absurd (let z = i.1 in omega (arith, e, z))

slot_full : {X : Type 0} (xs : List X) (n : ℕ) (o : Option X) → IsSlot xs n o → n ≢ 0 → (x : X) × (o ≡ Some x)
slot_full xs n None i e = absurd (e i)
slot_full xs n (Some x) i e = (x, refl)

no_units : (us : List OpenUnit) (m n : ℕ) (xs : List OpenUnit) → Slots us m n xs → xs ≡ [] → m ≡ 0
no_units us m n xs (neither e f g) z = f
no_units us m n xs (one a u e f g h) z = absurd (let y : ◌≡◌ {A = List OpenUnit} [] (u ∷ []) = sym z ∙ e in cc)
no_units us m n xs (both a b u v e f g h i) z = absurd (let y : ◌≡◌ {A = List OpenUnit} [] (u ∷ v ∷ []) = sym z ∙ e in cc)

zero_units : (us : List OpenUnit) (m n : ℕ) (xs : List OpenUnit) → Slots us m n xs → m ≡ 0 → xs ≡ []
zero_units us m n xs (neither e f g) z = e
zero_units us m n xs (one a u e f g h) z = absurd (omega (arith, z, f))
zero_units us m n xs (both a b u v e f g h i) z = absurd (omega (arith, z, f))

module _ (t : Numbers) (k : ResidualKey) (r : State) (x : Listed) (s : Step) (new : Bool) (first second : ℕ) (us : List OpenUnit) (stands : StandsFor t k r) (is : IsStep t x s) (units : units_of t.units first second ≡ Some us) where
  part_same : part_after k.part new s ≡ part_by r.part new x.mark
  part_same =
      let p = stands.part in
      let e = is.ends in
      let c = is.carrier in
      λ j. record { units = one_more new (p j).units; ends = with_end (e j) (p j).ends; carrier = carrier_with (p j).carrier (c j) }

  pub left_none : (PartAllows (part_after k.part new s) × (s.after ≡ 0 → first ≡ 0) → ⊥) → (old : List (Outcome ResidualKey)) → Adds t (LeftBy r new us x) old old
  left_none never old = record {
    given = left_not r new us x (tried_in t old) (λ o h. never (
      subst PartAllows (sym part_same) h.part,
      λ e. no_units t.units first second us (slots t.units first second us units) (subst (λ a. IfNone a (us ≡ [])) (slot_empty t.positions s.after x.mark.after is.after e) h.done),
    ));
    live = λ l. l;
  }

  done_of : (a : Option Position) → IsSlot t.positions s.after a → (s.after ≡ 0 → first ≡ 0) → IfNone a (us ≡ [])
  done_of None i ends = zero_units t.units first second us (slots t.units first second us units) (ends i)
  done_of (Some y) i ends = tt

  left_of : (p q : TicketPart) → p ≡ q → (n : ℕ) (a : Option Position) → IsSlot t.positions n a → next_at t (key_after n first second p) ≡ left_at a us q
  left_of p q e zero None i = refl
  left_of p q e zero (Some y) i = absurd (let z : 0 ≡ suc i.0 = i.1 in omega (arith, z))
  left_of p q e (suc n) None i = absurd (omega (arith, i))
  left_of p q e (suc n) (Some y) i =
      let same : n ≡ i.0 = (let z = i.1 in omega (arith, z)) in
      let at : unwrap_or (slice_get t.positions n) nowhere ≡ y = ap (λ o. unwrap_or o nowhere) (ap (slice_get t.positions) same ∙ i.2) in
      let is_open : unwrap_or (units_of t.units first second) [] ≡ us = ap (λ o. unwrap_or o []) units in
      λ j. At (record { at = at j; units = is_open j; part = e j })

  live_of : (p : TicketPart) → PartKept p → (n : ℕ) (a : Option Position) → IsSlot t.positions n a → IfSome (key_after n first second p) (IsLive t)
  live_of p h zero a i = tt
  live_of p h (suc n) None i = absurd (omega (arith, i))
  live_of p h (suc n) (Some y) i =
      let same : n ≡ i.0 = (let z = i.1 in omega (arith, z)) in
      (record { at = y; units = us; part = p }, record { at = ap (slice_get t.positions) same ∙ i.2; units = units; part = refl; kept = h })

  pub pushed : (next : Option ResidualKey) (price : ℕ) (old more : List (Outcome ResidualKey)) → PartAllows (part_after k.part new s) → PartKept (part_after k.part new s) → (s.after ≡ 0 → first ≡ 0)
      → next ≡ key_after s.after first second (part_after k.part new s) → price ≡ s.price → more ≡ old ++ record { next = next; price = price } ∷ [] → Adds t (LeftBy r new us x) old more
  pushed next price old more allows kept ends is_next is_price e = record {
    given =
        left_had r new us x (next_at t next) (tried_in t old) (tried_in t more) (subst PartAllows part_same allows) (done_of x.mark.after is.after ends)
        (ap (next_at t) is_next ∙ left_of (part_after k.part new s) (part_by r.part new x.mark) part_same s.after x.mark.after is.after)
        (ap (map (tried_of t)) e ∙ map-append (tried_of t) old (record { next = next; price = price } ∷ []) ∙ ap (λ (z : ℕ). tried_in t old ++ record { next = next_at t next; price = z } ∷ []) (is_price ∙ is.price));
    live = λ l. subst (LeadToLive (IsLive t)) (sym e) (live_more (IsLive t) old (record { next = next; price = price }) l (subst (λ z. IfSome z (IsLive t)) (sym is_next) (live_of (part_after k.part new s) kept s.after x.mark.after is.after)));
  }

-- where it opens a unit
same_units : (us : List OpenUnit) (m n : ℕ) (xs ys : List OpenUnit) → xs ≡ ys → units_of us m n ≡ Some xs → units_of us m n ≡ Some ys
same_units us m n xs ys e u = u ∙ ap Some e

two_only : (us : List OpenUnit) (m n : ℕ) (xs : List OpenUnit) → Slots us m n xs → n ≡ 0 → length xs < 2
two_only us m n xs (neither e f g) z = subst (λ ys. length ys < 2) (sym e) (omega arith)
two_only us m n xs (one a u e f g h) z = subst (λ ys. length ys < 2) (sym e) (omega arith)
two_only us m n xs (both a b u v e f g h i) z = absurd (omega (arith, z, g))

pub at_most_two : (us : List OpenUnit) (m n : ℕ) (xs : List OpenUnit) → Slots us m n xs → length xs ≤ 2
at_most_two us m n xs (neither e f g) = subst (λ ys. length ys ≤ 2) (sym e) (omega arith)
at_most_two us m n xs (one a u e f g h) = subst (λ ys. length ys ≤ 2) (sym e) (omega arith)
at_most_two us m n xs (both a b u v e f g h i) = subst (λ ys. length ys ≤ 2) (sym e) (omega arith)

pub no_room : (us : List OpenUnit) (m n : ℕ) (xs : List OpenUnit) → Slots us m n xs → n ≢ 0 → length xs < 2 → ⊥
no_room us m n xs (neither e f g) z h = z g
no_room us m n xs (one a u e f g i) z h = z g
no_room us m n xs (both a b u v e f g i j) z h = let l : length xs ≡ 2 = ap length e in omega (arith, l, h)

opened_first : (us : List OpenUnit) (m n slot : ℕ) (xs : List OpenUnit) (w : OpenUnit) → Slots us m n xs → m ≡ 0 → IsSlot us slot (Some w) → Slots us slot 0 (xs ++ w ∷ [])
opened_first us m n slot xs w s z i = one i.0 w (ap (λ ys. ys ++ w ∷ []) (zero_units us m n xs s z)) i.1 refl i.2

opened_second : (us : List OpenUnit) (m n slot : ℕ) (xs : List OpenUnit) (w : OpenUnit) → Slots us m n xs → n ≡ 0 → m ≢ 0 → IsSlot us slot (Some w) → Slots us m slot (xs ++ w ∷ [])
opened_second us m n slot xs w (neither e f g) z is_open i = absurd (is_open f)
opened_second us m n slot xs w (one a u e f g h) z is_open i = both a i.0 u w (ap (λ ys. ys ++ w ∷ []) e) f i.1 h i.2
opened_second us m n slot xs w (both a b u v e f g h j) z is_open i = absurd (omega (arith, z, g))

-- where it goes on in a unit or closes it
first_by : (us : List OpenUnit) (m n slot : ℕ) (xs : List OpenUnit) (w : Option OpenUnit) → Slots us m n xs → m ≢ 0 → IsSlot us slot w → slot ≢ 0 → Slots us slot n (units_by xs 0 w)
first_by us m n slot xs None s is_open i z = absurd (z i)
first_by us m n slot xs (Some w) (neither e f g) is_open i z = absurd (is_open f)
first_by us m n slot xs (Some w) (one a u e f g h) is_open i z = one i.0 w (ap (λ ys. set ys 0 w) e) i.1 g i.2
first_by us m n slot xs (Some w) (both a b u v e f g h j) is_open i z = both i.0 b w v (ap (λ ys. set ys 0 w) e) i.1 g i.2 j

first_closed : (us : List OpenUnit) (m n slot : ℕ) (xs : List OpenUnit) (w : Option OpenUnit) → Slots us m n xs → m ≢ 0 → IsSlot us slot w → slot ≡ 0 → Slots us n 0 (units_by xs 0 w)
first_closed us m n slot xs (Some w) s is_open i z = absurd (let y = i.1 in omega (arith, z, y))
first_closed us m n slot xs None (neither e f g) is_open i z = absurd (is_open f)
first_closed us m n slot xs None (one a u e f g h) is_open i z = neither (ap (λ ys. remove ys 0) e) g refl
first_closed us m n slot xs None (both a b u v e f g h j) is_open i z = one b v (ap (λ ys. remove ys 0) e) g refl j

second_by : (us : List OpenUnit) (m n slot : ℕ) (xs : List OpenUnit) (w : Option OpenUnit) → Slots us m n xs → n ≢ 0 → IsSlot us slot w → Slots us m slot (units_by xs 1 w)
second_by us m n slot xs w (neither e f g) is_open i = absurd (is_open g)
second_by us m n slot xs w (one a u e f g h) is_open i = absurd (is_open g)
second_by us m n slot xs None (both a b u v e f g h j) is_open i = one a u (ap (λ ys. remove ys 1) e) f i h
second_by us m n slot xs (Some w) (both a b u v e f g h j) is_open i = both a i.0 u w (ap (λ ys. set ys 1 w) e) f i.1 h i.2

has_first : (us : List OpenUnit) (m n : ℕ) (xs : List OpenUnit) → Slots us m n xs → m ≢ 0 → 0 < length xs
has_first us m n xs (neither e f g) is_open = absurd (is_open f)
has_first us m n xs (one a u e f g h) is_open = subst (λ ys. 0 < length ys) (sym e) (omega arith)
has_first us m n xs (both a b u v e f g h j) is_open = subst (λ ys. 0 < length ys) (sym e) (omega arith)

has_second : (us : List OpenUnit) (m n : ℕ) (xs : List OpenUnit) → Slots us m n xs → n ≢ 0 → 1 < length xs
has_second us m n xs (neither e f g) is_open = absurd (is_open g)
has_second us m n xs (one a u e f g h) is_open = absurd (is_open g)
has_second us m n xs (both a b u v e f g h j) is_open = subst (λ ys. 1 < length ys) (sym e) (omega arith)

module _ (k : ResidualKey) (s : Step) (old new : List (Outcome ResidualKey)) where
  pub opens_not : s.unit ≡ 0 → AddsOne OpenedBy k s old old
  opens_not e t r x stands is = record { given = opened_not r x (tried_in t old) (slot_empty t.units s.unit x.mark.unit is.unit e); live = λ l. l }

  pub opens_first : k.second ≡ 0 → s.unit ≢ 0 → k.first ≡ 0 → AddsLeft k true s.unit 0 s old new → AddsOne OpenedBy k s old new
  opens_first room is_open empty adds t r x stands is =
      let u = slot_full t.units s.unit x.mark.unit is.unit is_open in
      let sl = slots t.units k.first k.second r.units stands.units in
      let a = adds t r x (r.units ++ u.0 ∷ []) stands is (slots_back t.units s.unit 0 (r.units ++ u.0 ∷ []) (opened_first t.units k.first k.second s.unit r.units u.0 sl empty (subst (IsSlot t.units s.unit) u.1 is.unit))) in
      record { given = opened_had r x u.0 (tried_in t old) (tried_in t new) (two_only t.units k.first k.second r.units sl room) u.1 a.given; live = a.live }

  pub opens_second : k.second ≡ 0 → s.unit ≢ 0 → k.first ≢ 0 → AddsLeft k true k.first s.unit s old new → AddsOne OpenedBy k s old new
  opens_second room is_open taken adds t r x stands is =
      let u = slot_full t.units s.unit x.mark.unit is.unit is_open in
      let sl = slots t.units k.first k.second r.units stands.units in
      let a = adds t r x (r.units ++ u.0 ∷ []) stands is (slots_back t.units k.first s.unit (r.units ++ u.0 ∷ []) (opened_second t.units k.first k.second s.unit r.units u.0 sl room taken (subst (IsSlot t.units s.unit) u.1 is.unit))) in
      record { given = opened_had r x u.0 (tried_in t old) (tried_in t new) (two_only t.units k.first k.second r.units sl room) u.1 a.given; live = a.live }

  pub closes_first : k.first ≢ 0 → s.unit ≡ 0 → AddsLeft k false k.second 0 s old new → AddsOne (λ r. UnitBy r 0) k s old new
  closes_first is_open closed adds t r x stands is =
      let sl = slots t.units k.first k.second r.units stands.units in
      let us = units_by r.units 0 x.mark.unit in
      let a = adds t r x us stands is (slots_back t.units k.second 0 us (first_closed t.units k.first k.second s.unit r.units x.mark.unit sl is_open is.unit closed)) in
      record { given = unit_had r x 0 (tried_in t old) (tried_in t new) (has_first t.units k.first k.second r.units sl is_open) a.given; live = a.live }

  pub goes_on_first : k.first ≢ 0 → s.unit ≢ 0 → AddsLeft k false s.unit k.second s old new → AddsOne (λ r. UnitBy r 0) k s old new
  goes_on_first is_open longer adds t r x stands is =
      let sl = slots t.units k.first k.second r.units stands.units in
      let us = units_by r.units 0 x.mark.unit in
      let a = adds t r x us stands is (slots_back t.units s.unit k.second us (first_by t.units k.first k.second s.unit r.units x.mark.unit sl is_open is.unit longer)) in
      record { given = unit_had r x 0 (tried_in t old) (tried_in t new) (has_first t.units k.first k.second r.units sl is_open) a.given; live = a.live }

  pub in_second : k.second ≢ 0 → AddsLeft k false k.first s.unit s old new → AddsOne (λ r. UnitBy r 1) k s old new
  in_second is_open adds t r x stands is =
      let sl = slots t.units k.first k.second r.units stands.units in
      let us = units_by r.units 1 x.mark.unit in
      let a = adds t r x us stands is (slots_back t.units k.first s.unit us (second_by t.units k.first k.second s.unit r.units x.mark.unit sl is_open is.unit)) in
      record { given = unit_had r x 1 (tried_in t old) (tried_in t new) (has_second t.units k.first k.second r.units sl is_open) a.given; live = a.live }

  -- where it stands alone
  pub alone_one : AddsLeft k true k.first k.second s old new → AddsOne (λ r. LeftBy r true r.units) k s old new
  alone_one adds t r x stands is = adds t r x r.units stands is stands.units
