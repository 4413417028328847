-- What it says of a key that it stands for a residual. Given on to the crates above.
use Rattle.std.proofs.Common.{◌≡◌, ◌↔◌, ◌∙◌, ℕ, zero, suc, Bool, true, false, ◌&&◌, nat_eq, IsTrue, List, [], ◌∷◌, slice_get, Option, Some, None, option_map, unwrap_or, refl, sym, ap, subst, arith}
use Rattle.fare_law.specs.Lists.{AllDifferent}
use Rattle.open_unit.specs.declared.units.OpenUnit.{OpenUnit}
use Rattle.residual_keys.specs.declared.parts.TicketPart.{TicketPart}
use Rattle.residual_keys.specs.contracts.parts.TicketPartPartialEq.TheImpl as part
use Rattle.residual_keys.specs.Kept.{InTurn, PartKept, open_units}
use Rattle.residual_keys.specs.Residuals.{State}
use Rattle.residual_table.specs.declared.key.ResidualKey.{ResidualKey}
use Rattle.residual_table.specs.Keys.{AreTables, Grows, HasSlot, IsSlot, KeepsNumbers, KeepsResiduals, StandsFor, Tables, residual_at, units_of, nowhere, ◌>>=◌}
use Rattle.std.proofs.lemmas.Bool.Decides.{Decides-eqb}
use Rattle.residual_table.specs.contracts.key.ResidualKeyPartialEq.TheImpl as key
use Rattle.law_lemmas.proofs.Lists.{got_within}
use Rattle.law_lemmas.proofs.Pairs.{one_place}

units_keep : (us vs : List OpenUnit) (m n : ℕ) (xs : List OpenUnit) → KeepsNumbers us vs → units_of us m n ≡ Some xs → units_of vs m n ≡ Some xs
units_keep us vs zero zero xs g e = e
units_keep us vs zero (suc n) xs g e = absurd (cc)
units_keep us vs (suc m) zero xs g e = go (slice_get us m) refl e
  where
    go : (a : Option OpenUnit) → slice_get us m ≡ a → option_map (λ u. u ∷ []) a ≡ Some xs → option_map (λ u. u ∷ []) (slice_get vs m) ≡ Some xs
    go (Some u) f e = ap (option_map (λ z. z ∷ [])) (g m u f) ∙ e
    go None f e = absurd (cc)
units_keep us vs (suc m) (suc n) xs g e = go (slice_get us m) (slice_get us n) refl refl e
  where
    go : (a b : Option OpenUnit) → slice_get us m ≡ a → slice_get us n ≡ b → (a >>= (λ u. b >>= (λ v. Some (u ∷ v ∷ [])))) ≡ Some xs
        → (slice_get vs m >>= (λ u. slice_get vs n >>= (λ v. Some (u ∷ v ∷ [])))) ≡ Some xs
    go (Some u) (Some v) f h e = rw (g m u f, g n v h) e
    go None b f h e = absurd (cc)
    go (Some u) None f h e = absurd (cc)

pub stays : (old new : Tables) → Grows old new → KeepsResiduals old new
stays old new g k x s = record { at = g.positions k.position x.at s.at; units = units_keep old.units new.units k.first k.second x.units g.units s.units; part = s.part; kept = s.kept }

-- the residual that the key of one gives
pub residual_is : (t : Tables) (k : ResidualKey) (x : State) → StandsFor t k x → residual_at t k ≡ x
residual_is t k x s =
    let at : unwrap_or (slice_get t.positions k.position) nowhere ≡ x.at = ap (λ o. unwrap_or o nowhere) s.at in
    let units : unwrap_or (units_of t.units k.first k.second) [] ≡ x.units = ap (λ o. unwrap_or o []) s.units in
    let part = s.part in
    λ j. record { at = at j; units = units j; part = part j }

-- the slots of a list of open units
pub data Slots (us : List OpenUnit) (m n : ℕ) (xs : List OpenUnit) : Type 0 where
  neither : xs ≡ [] → m ≡ 0 → n ≡ 0 → Slots us m n xs
  one : (a : ℕ) (u : OpenUnit) → xs ≡ u ∷ [] → m ≡ suc a → n ≡ 0 → slice_get us a ≡ Some u → Slots us m n xs
  both : (a b : ℕ) (u v : OpenUnit) → xs ≡ u ∷ v ∷ [] → m ≡ suc a → n ≡ suc b → slice_get us a ≡ Some u → slice_get us b ≡ Some v → Slots us m n xs

pub slots : (us : List OpenUnit) (m n : ℕ) (xs : List OpenUnit) → units_of us m n ≡ Some xs → Slots us m n xs
slots us zero zero xs e = neither (let z : [] ≡ xs = cc in sym z) refl refl
slots us zero (suc n) xs e = absurd (cc)
slots us (suc m) zero xs e = go (slice_get us m) refl e
  where
    go : (a : Option OpenUnit) → slice_get us m ≡ a → option_map (λ u. u ∷ []) a ≡ Some xs → Slots us (suc m) zero xs
    go (Some u) f e = one m u (let z : u ∷ [] ≡ xs = cc in sym z) refl refl f
    go None f e = absurd (cc)
slots us (suc m) (suc n) xs e = go (slice_get us m) (slice_get us n) refl refl e
  where
    go : (a b : Option OpenUnit) → slice_get us m ≡ a → slice_get us n ≡ b → (a >>= (λ u. b >>= (λ v. Some (u ∷ v ∷ [])))) ≡ Some xs → Slots us (suc m) (suc n) xs
    go (Some u) (Some v) f h e = both m n u v (let z : u ∷ v ∷ [] ≡ xs = cc in sym z) refl refl f h
    go None b f h e = absurd (cc)
    go (Some u) None f h e = absurd (cc)

one_slots : (us : List OpenUnit) (m n m' n' : ℕ) (xs : List OpenUnit) → AllDifferent us → Slots us m n xs → Slots us m' n' xs → (m ≡ m') × (n ≡ n')
one_slots us m n m' n' xs d (neither e f g) (neither e' f' g') = (f ∙ sym f', g ∙ sym g')
one_slots us m n m' n' xs d (neither e f g) (one a u e' f' g' h') = absurd (let z : ◌≡◌ {A = List OpenUnit} [] (u ∷ []) = sym e ∙ e' in cc)
one_slots us m n m' n' xs d (neither e f g) (both a b u v e' f' g' h' i') = absurd (let z : ◌≡◌ {A = List OpenUnit} [] (u ∷ v ∷ []) = sym e ∙ e' in cc)
one_slots us m n m' n' xs d (one a u e f g h) (neither e' f' g') = absurd (let z : ◌≡◌ {A = List OpenUnit} [] (u ∷ []) = sym e' ∙ e in cc)
one_slots us m n m' n' xs d (one a u e f g h) (one a' u' e' f' g' h') =
    let same : u' ≡ u = (let z : u' ∷ [] ≡ u ∷ [] = sym e' ∙ e in cc) in
    let k = one_place us a a' u d h (h' ∙ ap Some same) in
    (f ∙ ap suc k ∙ sym f', g ∙ sym g')
one_slots us m n m' n' xs d (one a u e f g h) (both a' b' u' v' e' f' g' h' i') = absurd (let z : u ∷ [] ≡ u' ∷ v' ∷ [] = sym e ∙ e' in cc)
one_slots us m n m' n' xs d (both a b u v e f g h i) (neither e' f' g') = absurd (let z : ◌≡◌ {A = List OpenUnit} [] (u ∷ v ∷ []) = sym e' ∙ e in cc)
one_slots us m n m' n' xs d (both a b u v e f g h i) (one a' u' e' f' g' h') = absurd (let z : u' ∷ [] ≡ u ∷ v ∷ [] = sym e' ∙ e in cc)
one_slots us m n m' n' xs d (both a b u v e f g h i) (both a' b' u' v' e' f' g' h' i') =
    let z : u' ∷ v' ∷ [] ≡ u ∷ v ∷ [] = sym e' ∙ e in
    let same : u' ≡ u = cc in
    let other : v' ≡ v = cc in
    let k = one_place us a a' u d h (h' ∙ ap Some same) in
    let l = one_place us b b' v d i (i' ∙ ap Some other) in
    (f ∙ ap suc k ∙ sym f', g ∙ ap suc l ∙ sym g')

-- a residual has one key
pub one_key : (t : Tables) → AreTables t → (k l : ResidualKey) (x : State) → StandsFor t k x → StandsFor t l x → k ≡ l
one_key t a k l x s r =
    let at = one_place t.positions k.position l.position x.at a.positions s.at r.at in
    let units = one_slots t.units k.first k.second l.first l.second x.units a.units (slots t.units k.first k.second x.units s.units) (slots t.units l.first l.second x.units r.units) in
    let part : k.part ≡ l.part = s.part ∙ sym r.part in
    λ j. record { position = at j; first = units.0 j; second = units.1 j; part = part j }

-- a key stands for one residual
pub one_residual : (t : Tables) (k : ResidualKey) (x y : State) → StandsFor t k x → StandsFor t k y → x ≡ y
one_residual t k x y s r = sym (residual_is t k x s) ∙ residual_is t k y r

both_true : (a b : Bool) → IsTrue (a && b) → IsTrue a × IsTrue b
both_true true b h = (refl, h)
both_true false b h = absurd (cc)

-- the test of ticket parts tells whether they are one
abbrev pub PartsTell : Type 0
PartsTell = (s t : TicketPart) → PartKept s → PartKept t → IsTrue (part.ghosts.eq s t) ↔ (s ≡ t)

pub keys_tell : PartsTell → (k l : ResidualKey) → PartKept k.part → PartKept l.part → IsTrue (key.ghosts.eq k l) ↔ (k ≡ l)
keys_tell parts k l hk hl = (
  λ h.
      let a = both_true (nat_eq k.position l.position) (nat_eq k.first l.first && (nat_eq k.second l.second && part.ghosts.eq k.part l.part)) h in
      let b = both_true (nat_eq k.first l.first) (nat_eq k.second l.second && part.ghosts.eq k.part l.part) a.1 in
      let c = both_true (nat_eq k.second l.second) (part.ghosts.eq k.part l.part) b.1 in
      let p = (Decides-eqb k.position l.position).0 a.0 in
      let f = (Decides-eqb k.first l.first).0 b.0 in
      let s = (Decides-eqb k.second l.second).0 c.0 in
      let q = (parts k.part l.part hk hl).0 c.1 in
      λ j. record { position = p j; first = f j; second = s j; part = q j },
  λ e. subst (λ z. IsTrue (key.ghosts.eq k z)) e (
      let p = (Decides-eqb k.position k.position).1 refl in
      let f = (Decides-eqb k.first k.first).1 refl in
      let s = (Decides-eqb k.second k.second).1 refl in
      let q = (parts k.part k.part hk hk).1 refl in
      rw (p, f, s, q) refl),
)

pub keys_of_residuals : PartsTell → (t : Tables) → AreTables t → (k l : ResidualKey) (x y : State) → StandsFor t k x → StandsFor t l y → IsTrue (key.ghosts.eq k l) ↔ (x ≡ y)
keys_of_residuals parts t a k l x y e f =
    let hk : PartKept k.part = subst PartKept (sym e.part) e.kept in
    let hl : PartKept l.part = subst PartKept (sym f.part) f.kept in (
      λ h. let same = (keys_tell parts k l hk hl).0 h in one_residual t l x y (subst (λ z. StandsFor t z x) same e) f,
      λ h. (keys_tell parts k l hk hl).1 (one_key t a k l x e (subst (StandsFor t l) (sym h) f)),
    )

pub has_slots : (us : List OpenUnit) (m n : ℕ) (xs : List OpenUnit) → units_of us m n ≡ Some xs → HasSlot us m × HasSlot us n
has_slots us m n xs e = go (slots us m n xs e)
  where
    go : Slots us m n xs → HasSlot us m × HasSlot us n
    go (neither e f g) = (subst (HasSlot us) (sym f) tt, subst (HasSlot us) (sym g) tt)
    go (one a u e f g h) = (subst (HasSlot us) (sym f) (got_within us a u h), subst (HasSlot us) (sym g) tt)
    go (both a b u v e f g h i) = (subst (HasSlot us) (sym f) (got_within us a u h), subst (HasSlot us) (sym g) (got_within us b v i))

pub some_same : (x y : OpenUnit) → Some x ≡ Some y → x ≡ y
some_same x y e = cc

pub slot_same : (us : List OpenUnit) (n a : ℕ) (u v : OpenUnit) → n ≡ suc a → slice_get us a ≡ Some u → IsSlot us n (Some v) → v ≡ u
slot_same us n a u v f h i = let l = i.1 in let k : i.0 ≡ a = omega (arith, l, f) in some_same v u (sym i.2 ∙ ap (slice_get us) k ∙ h)

pub slot_none : (us : List OpenUnit) (n a : ℕ) → n ≡ suc a → IsSlot us n None → ⊥
slot_none us n a f i = let z : n ≡ 0 = i in omega (arith, z, f)

pub slot_some : (us : List OpenUnit) (n : ℕ) (v : OpenUnit) → n ≡ 0 → IsSlot us n (Some v) → ⊥
slot_some us n v f i = let z = i.1 in omega (arith, f, z)

present : (x : OpenUnit) → Some x ≡ None → ⊥
present x e = cc

-- the units that two slots have
pub units_are : (us : List OpenUnit) (m n : ℕ) (xs : List OpenUnit) (a b : Option OpenUnit) → units_of us m n ≡ Some xs → IsSlot us m a → IsSlot us n b → InTurn a b × (open_units a b ≡ xs)
units_are us m n xs a b e i j = go (slots us m n xs e) a b i j
  where
    go : Slots us m n xs → (a b : Option OpenUnit) → IsSlot us m a → IsSlot us n b → InTurn a b × (open_units a b ≡ xs)
    go (neither e f g) None b i j = none b j
      where
        none : (b : Option OpenUnit) → IsSlot us n b → InTurn None b × (open_units None b ≡ xs)
        none None j = (λ h. refl, sym e)
        none (Some v) j = absurd (slot_some us n v g j)
    go (neither e f g) (Some u) b i j = absurd (slot_some us m u f i)
    go (one a u e f g h) None b i j = absurd (slot_none us m a f i)
    go (one a u e f g h) (Some v) b i j = one_unit b j
      where
        one_unit : (b : Option OpenUnit) → IsSlot us n b → InTurn (Some v) b × (open_units (Some v) b ≡ xs)
        one_unit None j = (λ p. absurd (present v p), ap (λ z. z ∷ []) (slot_same us m a u v f h i) ∙ sym e)
        one_unit (Some w) j = absurd (slot_some us n w g j)
    go (both a b u v e f g h k) None y i j = absurd (slot_none us m a f i)
    go (both a b u v e f g h k) (Some x) y i j = two_units y j
      where
        two_units : (y : Option OpenUnit) → IsSlot us n y → InTurn (Some x) y × (open_units (Some x) y ≡ xs)
        two_units None j = absurd (slot_none us n b g j)
        two_units (Some w) j =
            let p : x ≡ u = slot_same us m a u x f h i in
            let q : w ≡ v = slot_same us n b v w g k j in
            (λ z. absurd (present x z), ap (λ z. z ∷ w ∷ []) p ∙ ap (λ z. u ∷ z ∷ []) q ∙ sym e)

-- back from slots to units
one_of : (us : List OpenUnit) (a : ℕ) (u : OpenUnit) → slice_get us a ≡ Some u → units_of us (suc a) 0 ≡ Some (u ∷ [])
one_of us a u e = ap (option_map (λ z. z ∷ [])) e

two_of : (us : List OpenUnit) (a b : ℕ) (u v : OpenUnit) → slice_get us a ≡ Some u → slice_get us b ≡ Some v → units_of us (suc a) (suc b) ≡ Some (u ∷ v ∷ [])
two_of us a b u v e f = rw (e, f) refl

pub slots_back : (us : List OpenUnit) (m n : ℕ) (xs : List OpenUnit) → Slots us m n xs → units_of us m n ≡ Some xs
slots_back us m n xs (neither e f g) = ap (λ z. units_of us z n) f ∙ ap (units_of us 0) g ∙ ap Some (sym e)
slots_back us m n xs (one a u e f g h) = ap (λ z. units_of us z n) f ∙ ap (units_of us (suc a)) g ∙ one_of us a u h ∙ ap Some (sym e)
slots_back us m n xs (both a b u v e f g h i) = ap (λ z. units_of us z n) f ∙ ap (units_of us (suc a)) g ∙ two_of us a b u v h i ∙ ap Some (sym e)

-- one number stands for one element
pub one_got : {X : Type 0} (xs : List X) (n : ℕ) (x y : X) → slice_get xs n ≡ Some x → slice_get xs n ≡ Some y → x ≡ y
one_got xs n x y e f = let z : Some x ≡ Some y = sym e ∙ f in cc

pub units_back : (us : List OpenUnit) (m n : ℕ) (a b : Option OpenUnit) → IsSlot us m a → IsSlot us n b → InTurn a b → units_of us m n ≡ Some (open_units a b)
units_back us m n None None i j t = slots_back us m n [] (neither refl i j)
units_back us m n None (Some v) i j t = absurd (present v (t refl))
units_back us m n (Some u) None i j t = slots_back us m n (u ∷ []) (one i.0 u refl i.1 j i.2)
units_back us m n (Some u) (Some v) i j t = slots_back us m n (u ∷ v ∷ []) (both i.0 j.0 u v refl i.1 j.1 i.2 j.2)

-- an open unit keeps its slot
pub slot_keeps : (us vs : List OpenUnit) (n : ℕ) (o : Option OpenUnit) → KeepsNumbers us vs → IsSlot us n o → IsSlot vs n o
slot_keeps us vs n None g i = i
slot_keeps us vs n (Some u) g i = (i.0, i.1, g i.0 u i.2)
