-- The groups that stand at a class, and that those of a path's class are those of its moves within the limit.
use Rattle.std.proofs.Common.{◌≡◌, ℕ, ◌≤◌, Bool, true, false, cond, List, [], ◌∷◌, ◌++◌, length, Option, Some, None, IfSome, refl, sym, ap, subst, ◌∙◌, inl, inr, arith}
use Rattle.std.specs.Cmp.{IsEquivalence}
use Rattle.std.specs.Map.{lookup}
use Rattle.cheap_moves.specs.declared.hopes.Hopes.{Hopes}
use Rattle.cheap_moves.specs.declared.hopes.PathClass.{PathClass}
use Rattle.cheap_moves.specs.declared.hopes.PathStart.{PathStart}
use Rattle.cheap_moves.specs.declared.prospects.Prospect.{Prospect}
use Rattle.cheap_moves.specs.declared.prospects.Prospects.{Prospects}
use Rattle.cheap_moves.specs.Hopes.{AreAllOnce, AreHopes, GroupAdded, IsClass, groups_of, listed}
use Rattle.cheap_moves.specs.Making.{IsWithinOn}
use Rattle.cheap_moves.specs.Prospects.{AreOnce, HasProspects, IsPut, code_of, prospect_as}
use Rattle.cheap_moves.specs.Within.{CountsWithin}
use Rattle.fare_law.specs.declared.flights.Flight.{Flight}
use Rattle.fare_law.specs.declared.names.Place.{Place}
use Rattle.fare_law.specs.declared.requests.Request.{Request}
use Rattle.fare_law.specs.Book.{Book}
use Rattle.fare_law.specs.Lists.{AllDifferent, Each, IsIn, OnFirst}
use Rattle.fare_law.specs.Parts.{Numbers}
use Rattle.flight_paths.specs.declared.positions.Path.{Path}
use Rattle.flight_paths.specs.Positions.{Flies}
use Rattle.indexmap.specs.IndexMap.{IndexMap, get}
use Rattle.residual_keys.specs.declared.residual.Chosen.{Chosen}
use Rattle.residual_keys.specs.Gathered.{Adds, IsPathOf}
use Rattle.residual_keys.specs.Residuals.{State}
use Rattle.residual_keys.specs.Steps.{IsChosen}
use Rattle.residual_keys.proofs.Adding.{adds_none}
use Rattle.residual_keys.proofs.OneNext.{flies_one}
use Rattle.residual_keys.proofs.Runs.{flies_numbers}
use Rattle.law_lemmas.proofs.LawFacts.{numbers_one}
use Rattle.law_lemmas.proofs.Members.{in_either, in_left, in_one, in_right}

-- ---- one group more

pub different_one : {X : Type 0} (x : X) (xs : List X) → (IsIn x xs → ⊥) → AllDifferent xs → AllDifferent (xs ++ x ∷ [])
different_one {X} x [] h k = (tt, tt)
different_one {X} x (y ∷ xs) h k = (joined xs k.0 (λ e. h (inl (sym e))), different_one x xs (λ i. h (inr i)) k.1)
  where
    joined : (zs : List X) → Each (λ z. y ≡ z → ⊥) zs → (y ≡ x → ⊥) → Each (λ z. y ≡ z → ⊥) (zs ++ x ∷ [])
    joined [] a b = (b, tt)
    joined (z ∷ zs) a b = (a.0, joined zs a.1 b)

pub group_put : (x : Prospect) (old new : Prospects) → (AreOnce old → IsIn x old.groups → ⊥) → new.groups ≡ old.groups ++ x ∷ [] → old.greatest ≤ new.greatest → code_of x ≤ new.greatest → IsPut x old new
group_put x old new not is more code = record {
  once = λ h. record {
    once = subst AllDifferent (sym is) (different_one x old.groups (not h) h.once);
    below = λ p i. elim (in_either p old.groups (x ∷ []) (subst (IsIn p) is i)) [
      | inl j ↦ let l = h.below p j in omega (arith, l, more)
      | inr j ↦ subst (λ y. code_of y ≤ new.greatest) (sym (in_one p x j)) code
    ];
  };
  stay = λ y i. subst (IsIn y) (sym is) (in_left y old.groups (x ∷ []) i);
  has = subst (IsIn x) (sym is) (in_right x old.groups (x ∷ []) (inl refl));
}

-- keys that are equal are looked up alike
lookups_same : {K X : Type 0} (eq : K → K → Bool) → IsEquivalence eq → (x y : K) → eq x y ≡ true → (es : List (K × X)) → lookup (eq x) es ≡ lookup (eq y) es
lookups_same eq laws x y e [] = refl
lookups_same eq laws x y e (d ∷ es) = ap (λ t. cond t (Some d.1) (lookup (eq x) es)) (laws.congr x y d.0 e) ∙ ap (cond (eq y d.0) (Some d.1)) (lookups_same eq laws x y e es)

module _ {K S : Type 0} (eq : K → K → Bool) (laws : IsEquivalence eq) (x : K) (p : Prospect) (old new : IndexMap K Prospects S) (was : Option Prospects) (w : Prospects) (is : get eq old x ≡ was) (updates : (y : K) → get eq new y ≡ cond (eq x y) (Some w) (get eq old y)) where
  now_is : (y : K) (t : Bool) → eq x y ≡ t → get eq new y ≡ cond t (Some w) (get eq old y)
  now_is y t e = updates y ∙ ap (λ b. cond b (Some w) (get eq old y)) e

  once_at : (IfSome was AreOnce → AreOnce w) → AreAllOnce eq old → (y : K) (t : Bool) → eq x y ≡ t → IfSome (get eq new y) AreOnce
  once_at once h y true e = subst (λ o. IfSome o AreOnce) (sym (now_is y true e)) (once (subst (λ o. IfSome o AreOnce) is (h x)))
  once_at once h y false e = subst (λ o. IfSome o AreOnce) (sym (now_is y false e)) (h y)

  stay_at : ((g : Prospect) → IsIn g (listed was) → IsIn g w.groups) → (y : K) (g : Prospect) → IsIn g (groups_of eq old y) → (t : Bool) → eq x y ≡ t → IsIn g (groups_of eq new y)
  stay_at stay y g i true e = subst (λ o. IsIn g (listed o)) (sym (now_is y true e)) (stay g (subst (λ o. IsIn g (listed o)) (sym (lookups_same eq laws x y e old.entries) ∙ is) i))
  stay_at stay y g i false e = subst (λ o. IsIn g (listed o)) (sym (now_is y false e)) i

  -- a class has its groups and one more then
  pub group_added : (IfSome was AreOnce → AreOnce w) → ((g : Prospect) → IsIn g (listed was) → IsIn g w.groups) → IsIn p w.groups → GroupAdded eq x p old new
  group_added once stay has = record {
    once = λ h y. once_at once h y (eq x y) refl;
    stay = λ y g i. stay_at stay y g i (eq x y) refl;
    has = subst (λ o. IsIn p (listed o)) (sym (now_is x true (laws.refl x))) has;
  }

-- ---- the groups of a path's moves

once_of : (o : Option Prospects) → IfSome o AreOnce → AllDifferent (listed o)
once_of None h = tt
once_of (Some ps) h = h.once

pub none_there : (groups : List Prospect) → length groups ≡ 0 → groups ≡ []
none_there [] e = refl
none_there (g ∷ groups) e = absurd (omega (arith, e))

module _ (b : Book) (q : Request) (r : State) (bound : State → Option ℕ) (limit : Option ℕ) (path : Path) where
  numbers_of : (c : Chosen) (k : IsChosen b q r c) → c.mv.flights ≡ path.flights → Flies b q.slices (Some r.at) path.flights k.flights k.after
  numbers_of c k ns = subst (λ ms. Flies b q.slices (Some r.at) ms k.flights k.after) ns k.moves.path.flies

  -- a path without flights of the book has no move
  pub no_flights : (old : List Chosen) → ((fs : List Flight) → Numbers b path.flights fs → fs ≡ []) → Adds (IsWithinOn b q r bound limit path) old old
  no_flights old none = adds_none (IsWithinOn b q r bound limit path) old (λ c m. let k = m.0.0 in begun k.flights _ (none k.flights (flies_numbers b q.slices (Some r.at) k.after path.flights k.flights (numbers_of c k m.0.1))) k.moves.stands.begins)
    where
      begun : (gs : List Flight) (P : Flight → Type 0) → gs ≡ [] → OnFirst P gs → ⊥
      begun gs P e f = subst (OnFirst P) e f

  module _ (same_start : PathStart → PathStart → Bool) (same_place : Place → Place → Bool) (same_class : PathClass → PathClass → Bool) (h : Hopes) (hopes : AreHopes same_start same_place same_class b q r bound limit h) (fs : List Flight) (is : IsPathOf b q r path fs) (x : PathClass)
      (of : (gs : List Flight) → Numbers b path.flights gs → IsClass x path.after gs) where
    group_has : (c : Chosen) (k : IsChosen b q r c) → CountsWithin bound limit c → c.mv.flights ≡ path.flights → IsIn (prospect_as k.piece) (groups_of same_class h.classes x)
    group_has c k n ns = hopes.of_classes c k n x (subst (λ a. IsClass x a k.flights) (sym after) (of k.flights numbers))
      where
        flies : Flies b q.slices (Some r.at) path.flights k.flights k.after
        flies = numbers_of c k ns

        numbers : Numbers b path.flights k.flights
        numbers = flies_numbers b q.slices (Some r.at) k.after path.flights k.flights flies

        same : fs ≡ k.flights
        same = numbers_one b path.flights fs k.flights (flies_numbers b q.slices (Some r.at) path.after path.flights fs is.flies) numbers

        after : k.after ≡ path.after
        after = flies_one b q.slices (Some r.at) path.flights k.flights k.after path.after flies (subst (λ gs. Flies b q.slices (Some r.at) path.flights gs path.after) same is.flies)

    pub has_prospects : (groups : List Prospect) → groups ≡ groups_of same_class h.classes x → HasProspects b q r bound limit path groups
    has_prospects groups e = record {
      once = subst AllDifferent (sym e) (once_of (get same_class h.classes x) (hopes.once x));
      all = λ c k n ns. subst (IsIn (prospect_as k.piece)) (sym e) (group_has c k n ns);
    }

    -- a path whose class has none has no move within the limit
    pub hopeless : (old : List Chosen) → groups_of same_class h.classes x ≡ [] → Adds (IsWithinOn b q r bound limit path) old old
    hopeless old e = adds_none (IsWithinOn b q r bound limit path) old (λ c m. subst (IsIn (prospect_as m.0.0.piece)) e (group_has c m.0.0 m.1 m.0.1))
