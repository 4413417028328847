-- The moves of a component, role by role.
use Rattle.std.proofs.Common.{◌≡◌, ◌≢◌, ◌⊎◌, ℕ, ◌+◌, ◌≤◌, true, false, List, length, Option, Some, None, sym, ap, subst, ◌∙◌, inl, inr}
use Rattle.cheap_moves.specs.declared.component.Component.{Component}
use Rattle.cheap_moves.specs.declared.component.Onward.{Onward}
use Rattle.cheap_moves.specs.Making.{IsComponentMove, IsFareMove, IsRoleMove, Of}
use Rattle.cheap_moves.specs.Within.{IsWithin, rest_of}
use Rattle.fare_law.specs.declared.moves.Move.{Move}
use Rattle.fare_law.specs.declared.moves.Role.{Role}
use Rattle.fare_law.specs.declared.moves.Role.TheVariants.{Alone, Opens, GoesOn, Closes}
use Rattle.residual_keys.specs.declared.residual.Chosen.{Chosen}
use Rattle.residual_keys.specs.declared.residual.Next.{Next}
use Rattle.residual_keys.specs.Gathered.{Adds}
use Rattle.residual_keys.specs.Residuals.{State, begins, closes, part_with}
use Rattle.residual_keys.specs.Steps.{Leaves, left_at}
use Rattle.residual_keys.proofs.Adding.{adds_like, adds_none, adds_then}
use Rattle.residual_keys.proofs.OneNext.{direction, units_one}
use Rattle.law_lemmas.proofs.Options.{some_one}
use Rattle.law_lemmas.proofs.Tests.{true_false}
use Rattle.residual_keys.proofs.RolesHad.{places}

none_some : {X : Type 0} (o : Option X) (x : X) → o ≡ None → o ≡ Some x → ⊥
none_some o x h k = cc

module _ (r : State) (bound : State → Option ℕ) (limit : Option ℕ) (k : Component) where
  abbrev L : Role → ℕ → Next → Type 0
  L role slot next = Leaves r k.flown.now.way.path.after k.facts role slot next

  -- a component leaves one thing
  leaves_one : (role : Role) (slot : ℕ) (x y : Next) → L role slot x → L role slot y → x ≡ y
  leaves_one role slot x y h l = h.left ∙ ap (λ us. left_at k.flown.now.way.path.after us (part_with r.part (begins role) k.facts)) (units_one role slot r.units h.units l.units k.facts h.step l.step) ∙ sym l.left

  pub role_none : (role : Role) (slot : ℕ) (old : List Chosen) → ((next : Next) → L role slot next → ⊥) → Adds (IsRoleMove r bound limit k role slot) old old
  role_none role slot old none = adds_none (IsRoleMove r bound limit k role slot) old (λ c h. none c.next h.leaves)

  pub role_unbound : (role : Role) (slot : ℕ) (next : Next) (old : List Chosen) → L role slot next → rest_of bound next ≡ None → Adds (IsRoleMove r bound limit k role slot) old old
  role_unbound role slot next old l e = adds_none (IsRoleMove r bound limit k role slot) old
      (λ c h. none_some (rest_of bound c.next) h.counts.rest (ap (rest_of bound) (leaves_one role slot c.next next h.leaves l) ∙ e) h.counts.rest_is)

  pub role_had : (way : Onward) (old new : List Chosen) → L way.role way.slot way.next → rest_of bound way.next ≡ Some way.rest → Adds (Of (IsFareMove k limit way) k.group.now.fares) old new → Adds (IsRoleMove r bound limit k way.role way.slot) old new
  role_had way old new l e h = adds_like (Of (IsFareMove k limit way) k.group.now.fares) (IsRoleMove r bound limit k way.role way.slot) old new h (λ c. (forth c, back c))
    where
      forth : (c : Chosen) → Of (IsFareMove k limit way) k.group.now.fares c → IsRoleMove r bound limit k way.role way.slot c
      forth c (f, i, x) = record {
        fare = f;
        of = i;
        row = x.row;
        stands = x.stands;
        open_class = x.open_class;
        move = x.move;
        price = x.price;
        leaves = subst (L way.role way.slot) (sym x.next) l;
        counts = record { rest = way.rest; rest_is = ap (rest_of bound) x.next ∙ e; within = subst (λ n. IsWithin limit (n + way.rest)) (sym x.price) x.within };
      }

      back : (c : Chosen) → IsRoleMove r bound limit k way.role way.slot c → Of (IsFareMove k limit way) k.group.now.fares c
      back c x =
          let next : c.next ≡ way.next = leaves_one way.role way.slot c.next way.next x.leaves l in
          let rest : x.counts.rest ≡ way.rest = some_one (rest_of bound way.next) x.counts.rest way.rest (subst (λ n. rest_of bound n ≡ Some x.counts.rest) next x.counts.rest_is) e in (
            x.fare,
            x.of,
            record {
              row = x.row;
              stands = x.stands;
              open_class = x.open_class;
              move = x.move;
              price = x.price;
              next = next;
              within = subst (λ n. IsWithin limit (n + way.rest)) x.price (subst (λ n. IsWithin limit (c.price + n)) rest x.counts.within);
            },
          )

  abbrev Q : Role → ℕ → Chosen → Type 0
  Q role slot c = IsRoleMove r bound limit k role slot c

  -- one move has one role and one slot
  other_role : (role role' : Role) (slot slot' : ℕ) (x y : Chosen) → (role ≡ role' → ⊥) → Q role slot x → Q role' slot' y → x.mv ≢ y.mv
  other_role role role' slot slot' x y ne h l e = ne (ap (λ (m : Move). m.role) (sym h.move ∙ e ∙ l.move))

  other_slot : (role : Role) (slot slot' : ℕ) (x y : Chosen) → (slot ≡ slot' → ⊥) → Q role slot x → Q role slot' y → x.mv ≢ y.mv
  other_slot role slot slot' x y ne h l e = ne (ap (λ (m : Move). m.slot) (sym h.move ∙ e ∙ l.move))

  way_is : (role : Role) (slot : ℕ) (c : Chosen) → Q role slot c → k.facts.reverse ≡ closes role
  way_is role slot c h = direction role slot r.units h.leaves.units k.facts h.leaves.step

  -- a fare that is filed forward
  forward_in : length r.units ≤ 2 → k.facts.reverse ≡ false → (c : Chosen) (role : Role) (slot : ℕ) → Q role slot c → ((Q Alone 0 c ⊎ Q Opens 0 c) ⊎ Q GoesOn 0 c) ⊎ Q GoesOn 1 c
  forward_in few e c Alone slot h = inl (inl (inl (subst (λ s. Q Alone s c) h.leaves.step.0 h)))
  forward_in few e c Opens slot h = inl (inl (inr (subst (λ s. Q Opens s c) h.leaves.step.0 h)))
  forward_in few e c GoesOn slot h = elim (places r.units slot h.leaves.step.0 few h.leaves.step.1) [ inl s ↦ inl (inr (subst (λ s. Q GoesOn s c) s h)) | inr s ↦ inr (subst (λ s. Q GoesOn s c) s h) ]
  forward_in few e c Closes slot h = absurd (true_false (way_is Closes slot c h) e)

  forward_out : (c : Chosen) → ((Q Alone 0 c ⊎ Q Opens 0 c) ⊎ Q GoesOn 0 c) ⊎ Q GoesOn 1 c → IsComponentMove r bound limit k c
  forward_out c (inl (inl (inl h))) = (Alone, 0, h)
  forward_out c (inl (inl (inr h))) = (Opens, 0, h)
  forward_out c (inl (inr h)) = (GoesOn, 0, h)
  forward_out c (inr h) = (GoesOn, 1, h)

  pub forward_roles : length r.units ≤ 2 → k.facts.reverse ≡ false → (a b c d e : List Chosen) → Adds (Q Alone 0) a b → Adds (Q Opens 0) b c → Adds (Q GoesOn 0) c d → Adds (Q GoesOn 1) d e → Adds (IsComponentMove r bound limit k) a e
  forward_roles few f a b c d e h1 h2 h3 h4 =
      let two = adds_then (Q Alone 0) (Q Opens 0) a b c h1 h2 (λ x y i j. other_role Alone Opens 0 0 x y (λ n. cc) i j) in
      let three = adds_then (λ z. Q Alone 0 z ⊎ Q Opens 0 z) (Q GoesOn 0) a c d two h3 (λ x y i j. elim i [ inl l ↦ other_role Alone GoesOn 0 0 x y (λ n. cc) l j | inr l ↦ other_role Opens GoesOn 0 0 x y (λ n. cc) l j ]) in
      let four = adds_then (λ z. (Q Alone 0 z ⊎ Q Opens 0 z) ⊎ Q GoesOn 0 z) (Q GoesOn 1) a d e three h4
      (λ x y i j. elim i [ inl m ↦ elim m [ inl l ↦ other_role Alone GoesOn 0 1 x y (λ n. cc) l j | inr l ↦ other_role Opens GoesOn 0 1 x y (λ n. cc) l j ] | inr l ↦ other_slot GoesOn 0 1 x y (λ n. cc) l j ]) in
      adds_like (λ z. ((Q Alone 0 z ⊎ Q Opens 0 z) ⊎ Q GoesOn 0 z) ⊎ Q GoesOn 1 z) (IsComponentMove r bound limit k) a e four (λ z. (forward_out z, λ m. forward_in few f z m.0 m.1 m.2))

  -- one that is filed in reverse
  back_in : length r.units ≤ 2 → k.facts.reverse ≡ true → (c : Chosen) (role : Role) (slot : ℕ) → Q role slot c → Q Closes 0 c ⊎ Q Closes 1 c
  back_in few e c Alone slot h = absurd (true_false e (way_is Alone slot c h))
  back_in few e c Opens slot h = absurd (true_false e (way_is Opens slot c h))
  back_in few e c GoesOn slot h = absurd (true_false e (way_is GoesOn slot c h))
  back_in few e c Closes slot h = elim (places r.units slot h.leaves.step.0 few h.leaves.step.1) [ inl s ↦ inl (subst (λ s. Q Closes s c) s h) | inr s ↦ inr (subst (λ s. Q Closes s c) s h) ]

  pub back_roles : length r.units ≤ 2 → k.facts.reverse ≡ true → (a b c : List Chosen) → Adds (Q Closes 0) a b → Adds (Q Closes 1) b c → Adds (IsComponentMove r bound limit k) a c
  back_roles few e a b c h1 h2 =
      adds_like (λ z. Q Closes 0 z ⊎ Q Closes 1 z) (IsComponentMove r bound limit k) a c (adds_then (Q Closes 0) (Q Closes 1) a b c h1 h2 (λ x y i j. other_slot Closes 0 1 x y (λ n. cc) i j))
      (λ z. (λ i. elim i [ inl h ↦ (Closes, 0, h) | inr h ↦ (Closes, 1, h) ], λ m. back_in few e z m.0 m.1 m.2))
