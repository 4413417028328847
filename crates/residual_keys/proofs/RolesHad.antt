-- The moves of one component: one in each role and slot at most, and in no others than six. Given on to the crates above.
use Rattle.std.proofs.Common.{◌≡◌, ◌≢◌, ◌⊎◌, ℕ, zero, suc, ◌≤◌, List, [], ◌∷◌, ◌++◌, length, slice_get, Some, refl, sym, ap, subst, ◌∙◌, inl, inr, arith}
use Rattle.fare_law.specs.declared.moves.Move.{Move}
use Rattle.fare_law.specs.declared.moves.Role.{Role}
use Rattle.fare_law.specs.declared.moves.Role.TheVariants.{Alone, Opens, GoesOn, Closes}
use Rattle.open_unit.specs.declared.units.OpenUnit.{OpenUnit}
use Rattle.residual_keys.specs.declared.priced.PricedComponent.{PricedComponent}
use Rattle.residual_keys.specs.declared.residual.Chosen.{Chosen}
use Rattle.residual_keys.specs.declared.residual.Next.{Next}
use Rattle.residual_keys.specs.Gathered.{Adds, IsChoice, IsChoiceOf}
use Rattle.residual_keys.specs.Residuals.{State, begins, part_with}
use Rattle.residual_keys.specs.Steps.{Leaves, left_at}
use Rattle.residual_keys.proofs.Adding.{adds_like, adds_none, adds_one, adds_then}
use Rattle.residual_keys.proofs.OneNext.{units_one}

-- one of two open units stands in the first slot or in the second
pub places : (us : List OpenUnit) (slot : ℕ) (u : OpenUnit) → length us ≤ 2 → slice_get us slot ≡ Some u → (◌≡◌ {A = ℕ} slot 0) ⊎ (◌≡◌ {A = ℕ} slot 1)
places us zero u few e = inl refl
places us (suc zero) u few e = inr refl
places [] (suc (suc s)) u few e = cc
places (x ∷ []) (suc (suc s)) u few e = cc
places (x ∷ y ∷ []) (suc (suc s)) u few e = cc
places (x ∷ y ∷ z ∷ us) (suc (suc s)) u few e = absurd (omega arith)

module _ (r : State) (p : PricedComponent) where
  -- a component leaves one thing
  leaves_one : (role : Role) (slot : ℕ) (x y : Next) → Leaves r p.path.now.after p.facts role slot x → Leaves r p.path.now.after p.facts role slot y → x ≡ y
  leaves_one role slot x y h k = h.left ∙ ap (λ us. left_at p.path.now.after us (part_with r.part (begins role) p.facts)) (units_one role slot r.units h.units k.units p.facts h.step k.step) ∙ sym k.left

  pub choice_made : (role : Role) (slot : ℕ) (m : Move) (next : Next) (old new : List Chosen) → m ≡ record { flights = p.path.now.flights; carrier = p.key.now.carrier; basis = p.key.now.basis; role = role; slot = slot }
      → Leaves r p.path.now.after p.facts role slot next → new ≡ old ++ record { mv = m; price = p.price; next = next } ∷ [] → Adds (IsChoice r p role slot) old new
  choice_made role slot m next old new e l is = adds_one (IsChoice r p role slot) old new (record { mv = m; price = p.price; next = next }) is (record { move = e; price_is = refl; leaves = l }) only
    where
      only : (d : Chosen) → IsChoice r p role slot d → d ≡ record { mv = m; price = p.price; next = next }
      only d h =
          let a : d.mv ≡ m = h.move ∙ sym e in
          let b : d.price ≡ p.price = h.price_is in
          let c : d.next ≡ next = leaves_one role slot d.next next h.leaves l in
          λ i. record { mv = a i; price = b i; next = c i }

  pub no_choice : (role : Role) (slot : ℕ) (old : List Chosen) → ((next : Next) → Leaves r p.path.now.after p.facts role slot next → ⊥) → Adds (IsChoice r p role slot) old old
  no_choice role slot old none = adds_none (IsChoice r p role slot) old (λ c h. none c.next h.leaves)

  -- one move has one role and one slot
  role_one : (role role' : Role) (slot slot' : ℕ) (x y : Chosen) → IsChoice r p role slot x → IsChoice r p role' slot' y → x.mv ≡ y.mv → (role ≡ role') × (slot ≡ slot')
  role_one role role' slot slot' x y h k e = let same = sym h.move ∙ e ∙ k.move in (ap (λ m. m.role) same, ap (λ m. m.slot) same)

  abbrev Q : Role → ℕ → Chosen → Type 0
  Q role slot c = IsChoice r p role slot c

  -- a component in a role stands in one of six places
  six : length r.units ≤ 2 → (c : Chosen) (role : Role) (slot : ℕ) → Q role slot c
      → ((((Q Alone 0 c ⊎ Q Opens 0 c) ⊎ Q GoesOn 0 c) ⊎ Q GoesOn 1 c) ⊎ Q Closes 0 c) ⊎ Q Closes 1 c
  six few c Alone slot h = inl (inl (inl (inl (inl (subst (λ s. Q Alone s c) h.leaves.step.0 h)))))
  six few c Opens slot h = inl (inl (inl (inl (inr (subst (λ s. Q Opens s c) h.leaves.step.0 h)))))
  six few c GoesOn slot h = elim (places r.units slot h.leaves.step.0 few h.leaves.step.1) [ inl e ↦ inl (inl (inl (inr (subst (λ s. Q GoesOn s c) e h)))) | inr e ↦ inl (inl (inr (subst (λ s. Q GoesOn s c) e h))) ]
  six few c Closes slot h = elim (places r.units slot h.leaves.step.0 few h.leaves.step.1) [ inl e ↦ inl (inr (subst (λ s. Q Closes s c) e h)) | inr e ↦ inr (subst (λ s. Q Closes s c) e h) ]

  one_of : (c : Chosen) → ((((Q Alone 0 c ⊎ Q Opens 0 c) ⊎ Q GoesOn 0 c) ⊎ Q GoesOn 1 c) ⊎ Q Closes 0 c) ⊎ Q Closes 1 c → IsChoiceOf r p c
  one_of c (inl (inl (inl (inl (inl h))))) = (Alone, 0, h)
  one_of c (inl (inl (inl (inl (inr h))))) = (Opens, 0, h)
  one_of c (inl (inl (inl (inr h)))) = (GoesOn, 0, h)
  one_of c (inl (inl (inr h))) = (GoesOn, 1, h)
  one_of c (inl (inr h)) = (Closes, 0, h)
  one_of c (inr h) = (Closes, 1, h)

  other_role : (role role' : Role) (slot slot' : ℕ) (x y : Chosen) → (role ≡ role' → ⊥) → Q role slot x → Q role' slot' y → x.mv ≢ y.mv
  other_role role role' slot slot' x y ne h k e = ne (role_one role role' slot slot' x y h k e).0

  other_slot : (role : Role) (slot slot' : ℕ) (x y : Chosen) → (slot ≡ slot' → ⊥) → Q role slot x → Q role slot' y → x.mv ≢ y.mv
  other_slot role slot slot' x y ne h k e = ne (role_one role role slot slot' x y h k e).1

  pub all_choices : length r.units ≤ 2 → (a b c d e f g : List Chosen) → Adds (Q Alone 0) a b → Adds (Q Opens 0) b c → Adds (Q GoesOn 0) c d → Adds (Q GoesOn 1) d e → Adds (Q Closes 0) e f → Adds (Q Closes 1) f g → Adds (IsChoiceOf r p) a g
  all_choices few a b c d e f g h1 h2 h3 h4 h5 h6 =
      let two = adds_then (Q Alone 0) (Q Opens 0) a b c h1 h2 (λ x y i j. other_role Alone Opens 0 0 x y (λ n. cc) i j) in
      let three = adds_then (λ z. Q Alone 0 z ⊎ Q Opens 0 z) (Q GoesOn 0) a c d two h3 (λ x y i j. elim i [ inl k ↦ other_role Alone GoesOn 0 0 x y (λ n. cc) k j | inr k ↦ other_role Opens GoesOn 0 0 x y (λ n. cc) k j ]) in
      let four = adds_then (λ z. (Q Alone 0 z ⊎ Q Opens 0 z) ⊎ Q GoesOn 0 z) (Q GoesOn 1) a d e three h4 (λ x y i j. elim i [ inl k ↦ elim k [ inl l ↦ other_role Alone GoesOn 0 1 x y (λ n. cc) l j | inr l ↦ other_role Opens GoesOn 0 1 x y (λ n. cc) l j ] | inr k ↦ other_slot GoesOn 0 1 x y (λ n. cc) k j ]) in
      let five = adds_then (λ z. ((Q Alone 0 z ⊎ Q Opens 0 z) ⊎ Q GoesOn 0 z) ⊎ Q GoesOn 1 z) (Q Closes 0) a e f four h5 (λ x y i j. before_closing x y 0 i j) in
      let six_of = adds_then (λ z. (((Q Alone 0 z ⊎ Q Opens 0 z) ⊎ Q GoesOn 0 z) ⊎ Q GoesOn 1 z) ⊎ Q Closes 0 z) (Q Closes 1) a f g five h6 (λ x y i j. elim i [ inl k ↦ before_closing x y 1 k j | inr k ↦ other_slot Closes 0 1 x y (λ n. cc) k j ]) in
      adds_like (λ z. ((((Q Alone 0 z ⊎ Q Opens 0 z) ⊎ Q GoesOn 0 z) ⊎ Q GoesOn 1 z) ⊎ Q Closes 0 z) ⊎ Q Closes 1 z) (IsChoiceOf r p) a g six_of (λ z. (one_of z, λ k. six few z k.0 k.1 k.2))
    where
      before_closing : (x y : Chosen) (slot : ℕ) → ((Q Alone 0 x ⊎ Q Opens 0 x) ⊎ Q GoesOn 0 x) ⊎ Q GoesOn 1 x → Q Closes slot y → x.mv ≢ y.mv
      before_closing x y slot (inl (inl (inl h))) j = other_role Alone Closes 0 slot x y (λ n. cc) h j
      before_closing x y slot (inl (inl (inr h))) j = other_role Opens Closes 0 slot x y (λ n. cc) h j
      before_closing x y slot (inl (inr h)) j = other_role GoesOn Closes 0 slot x y (λ n. cc) h j
      before_closing x y slot (inr h) j = other_role GoesOn Closes 1 slot x y (λ n. cc) h j
