-- The key that is found is the one that stands for a residual.
use Rattle.std.proofs.Common.{◌≡◌, ◌↔◌, ◌∙◌, ℕ, zero, suc, ◌+◌, ◌≤◌, ◌<◌, Bool, true, false, not, cond, IsTrue, List, [], ◌∷◌, length, get_or, position, slice_get, Option, Some, None, IfSome, option_map, refl, sym, ap, subst, arith}
use Rattle.std.proofs.lemmas.Grind.{common_steps}
use Rattle.std.specs.List.{position_or_len}
use Rattle.std.proofs.lemmas.List.Quantifiers.{position-Some}
use Rattle.std.proofs.lemmas.Option.{slice_get-get_or}
use Rattle.fare_law.specs.Lists.{AllDifferent, Each}
use Rattle.flight_paths.specs.declared.positions.Position.{Position}
use Rattle.flight_paths.specs.contracts.positions.PositionPartialEq.TheImpl as position_test
use Rattle.open_unit.specs.declared.units.OpenUnit.{OpenUnit}
use Rattle.open_unit.specs.contracts.units.OpenUnitPartialEq.TheImpl as unit_test
use Rattle.open_unit.specs.Ranges.{UnitInRanges}
use Rattle.residual_keys.specs.Kept.{InTurn, IsResidual, open_units}
use Rattle.residual_keys.specs.Residuals.{State}
use Rattle.residual_table.specs.declared.key.ResidualKey.{ResidualKey}
use Rattle.residual_table.specs.Found.{key_at, slot_at}
use Rattle.residual_table.specs.Keys.{AreTables, IsSlot, StandsFor, Tables, units_of, ◌>>=◌}
use Rattle.residual_table.proofs.KeyFacts.{Slots, slots, units_back}
use Rattle.residual_table.proofs.Numbers.{TellsFor, each_any}
use Rattle.law_lemmas.proofs.EachOne.{each_got}
use Rattle.law_lemmas.proofs.Pairs.{one_place}

first_below : {X : Type 0} (test : X → Bool) (xs : List X) (n : ℕ) (x : X) → slice_get xs n ≡ Some x → test x ≡ true → position_or_len test xs < length xs
first_below test [] n x e t = absurd (cc)
first_below test (y ∷ ys) zero x e t = let z : y ≡ x = cc in let s : test y ≡ true = ap test z ∙ t in rw (s) (let k : 0 < suc (length ys) = omega arith in k)
first_below test (y ∷ ys) (suc n) x e t = go (test y) (first_below test ys n x e t)
  where
    go : (b : Bool) → position_or_len test ys < length ys → cond (not b) (1 + position_or_len test ys) 0 < suc (length ys)
    go true h = omega arith
    go false h = omega (arith, h)

not_past : {X : Type 0} (test : X → Bool) (xs : List X) → position_or_len test xs < length xs → position test xs ≡ None → ⊥
not_past test xs h e = grind (arith, common_steps)

module _ {X : Type 0} (P : X → Type 0) (eq : X → X → Bool) (tells : TellsFor P eq) (xs : List X) (d : AllDifferent xs) (all : Each P xs) where
  -- the first element that the test passes is the one
  stands : (x : X) (n : ℕ) → P x → position (eq x) xs ≡ Some n → slice_get xs n ≡ Some x
  stands x n p e =
      let h = position-Some (eq x) xs n x e in
      let k = slice_get-get_or xs n x h.0 in
      k ∙ ap Some (sym ((tells x (get_or xs n x) p (each_got P xs n (get_or xs n x) all k)).0 h.1))

  at_number : (x : X) (n : ℕ) → P x → slice_get xs n ≡ Some x → position (eq x) xs ≡ Some n
  at_number x n p e = go (position (eq x) xs) refl
    where
      go : (o : Option ℕ) → position (eq x) xs ≡ o → o ≡ Some n
      go (Some m) f = ap Some (one_place xs m n x d (stands x m p f) e)
      go None f = absurd (not_past (eq x) xs (first_below (eq x) xs n x e ((tells x x p p).1 refl)) f)

  slot_is : (o : Option X) (n : ℕ) → IfSome o P → (slot_at eq xs o ≡ Some n) ↔ IsSlot xs n o
  slot_is None n p = (λ e. let z : 0 ≡ n = cc in sym z, λ e. ap Some (sym e))
  slot_is (Some x) n p = (there (position (eq x) xs) refl, λ i. ap (option_map (λ m. suc m)) (at_number x i.0 p i.2) ∙ ap Some (sym i.1))
    where
      there : (o : Option ℕ) → position (eq x) xs ≡ o → option_map (λ m. suc m) o ≡ Some n → IsSlot xs n (Some x)
      there (Some m) f e = (m, (let z : suc m ≡ n = cc in sym z), stands x m p f)
      there None f e = absurd (cc)

-- the two places of a residual's open units
few_units : (xs : List OpenUnit) → length xs ≤ 2 → InTurn (slice_get xs 0) (slice_get xs 1) × (open_units (slice_get xs 0) (slice_get xs 1) ≡ xs)
few_units [] h = (λ e. refl, refl)
few_units (u ∷ []) h = (λ e. refl, refl)
few_units (u ∷ v ∷ []) h = (λ e. absurd (cc), refl)
few_units (u ∷ v ∷ w ∷ xs) h = absurd (omega (arith, h))

units_kept : (xs : List OpenUnit) → Each UnitInRanges xs → IfSome (slice_get xs 0) UnitInRanges × IfSome (slice_get xs 1) UnitInRanges
units_kept [] h = (tt, tt)
units_kept (u ∷ []) h = (h.0, tt)
units_kept (u ∷ v ∷ xs) h = (h.0, h.1.0)

slots_are : (us : List OpenUnit) (m n : ℕ) (xs : List OpenUnit) → Slots us m n xs → IsSlot us m (slice_get xs 0) × IsSlot us n (slice_get xs 1)
slots_are us m n xs (Slots.neither e f g) = subst (λ v. IsSlot us m (slice_get v 0) × IsSlot us n (slice_get v 1)) (sym e) (f, g)
slots_are us m n xs (Slots.one a u e f g h) = subst (λ v. IsSlot us m (slice_get v 0) × IsSlot us n (slice_get v 1)) (sym e) ((a, f, h), g)
slots_are us m n xs (Slots.both a b u v e f g h i) = subst (λ v. IsSlot us m (slice_get v 0) × IsSlot us n (slice_get v 1)) (sym e) ((a, f, h), (b, g, i))

module _ (positions : (a b : Position) → IsTrue (position_test.ghosts.eq a b) ↔ (a ≡ b)) (units : TellsFor UnitInRanges unit_test.ghosts.eq)
    (t : Tables) (a : AreTables t) (x : State) (r : IsResidual x) where
  abbrev key_by : Option ℕ → Option ℕ → Option ℕ → Option ResidualKey
  key_by at first second = at >>= (λ p. first >>= (λ m. second >>= (λ n. Some (record { position = p; first = m; second = n; part = x.part }))))

  abbrev at_place : Option ℕ
  at_place = position (position_test.ghosts.eq x.at) t.positions

  abbrev slot_of : ℕ → Option ℕ
  slot_of i = slot_at unit_test.ghosts.eq t.units (slice_get x.units i)

  slot_stands : (i n : ℕ) → IfSome (slice_get x.units i) UnitInRanges → (slot_of i ≡ Some n) ↔ IsSlot t.units n (slice_get x.units i)
  slot_stands i n h = slot_is UnitInRanges unit_test.ghosts.eq units t.units a.units a.units_kept (slice_get x.units i) n h

  found_stands : (k : ResidualKey) → key_at position_test.ghosts.eq unit_test.ghosts.eq t x ≡ Some k → StandsFor t k x
  found_stands k e = go at_place (slot_of 0) (slot_of 1) refl refl refl e
    where
      go : (p m n : Option ℕ) → at_place ≡ p → slot_of 0 ≡ m → slot_of 1 ≡ n → key_by p m n ≡ Some k → StandsFor t k x
      go None m n f g h e = absurd (cc)
      go (Some p) None n f g h e = absurd (cc)
      go (Some p) (Some m) None f g h e = absurd (cc)
      go (Some p) (Some m) (Some n) f g h e =
          let made : ResidualKey = record { position = p; first = m; second = n; part = x.part } in
          let same : made ≡ k = cc in
          let kept = units_kept x.units r.units in
          let few = few_units x.units r.few in
          subst (λ z. StandsFor t z x) same (record {
            at = stands (λ _. Unit {0}) position_test.ghosts.eq (λ b c _ _. positions b c) t.positions a.positions (each_any t.positions) x.at p tt f;
            units = subst (λ v. units_of t.units m n ≡ Some v) few.1 (units_back t.units m n (slice_get x.units 0) (slice_get x.units 1) ((slot_stands 0 m kept.0).0 g) ((slot_stands 1 n kept.1).0 h) few.0);
            part = refl;
            kept = r.part;
          })

  stands_found : (k : ResidualKey) → StandsFor t k x → key_at position_test.ghosts.eq unit_test.ghosts.eq t x ≡ Some k
  stands_found k s =
      let kept = units_kept x.units r.units in
      let two = slots_are t.units k.first k.second x.units (slots t.units k.first k.second x.units s.units) in
      let f : at_place ≡ Some k.position = at_number (λ _. Unit {0}) position_test.ghosts.eq (λ b c _ _. positions b c) t.positions a.positions (each_any t.positions) x.at k.position tt s.at in
      let g : slot_of 0 ≡ Some k.first = (slot_stands 0 k.first kept.0).1 two.0 in
      let h : slot_of 1 ≡ Some k.second = (slot_stands 1 k.second kept.1).1 two.1 in
      go at_place (slot_of 0) (slot_of 1) f g h
    where
      go : (p m n : Option ℕ) → p ≡ Some k.position → m ≡ Some k.first → n ≡ Some k.second → key_by p m n ≡ Some k
      go p m n f g h = (λ j. key_by (f j) (g j) (h j)) ∙ (λ j. Some (record { position = k.position; first = k.first; second = k.second; part = sym s.part j }))

pub key_found : (positions : (a b : Position) → IsTrue (position_test.ghosts.eq a b) ↔ (a ≡ b)) (units : TellsFor UnitInRanges unit_test.ghosts.eq) (t : Tables) (k : ResidualKey) (x : State) → AreTables t → IsResidual x
    → (key_at position_test.ghosts.eq unit_test.ghosts.eq t x ≡ Some k) ↔ StandsFor t k x
key_found positions units t k x a r = (found_stands positions units t a x r k, stands_found positions units t a x r k)
