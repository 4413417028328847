-- The fare of a component is filed between its ends.
use Rattle.std.proofs.Common.{◌≡◌, Bool, true, false, MatchBool, sym, ap, subst, ◌∙◌}
use Rattle.fare_book.specs.Keeping.{NoFare}
use Rattle.fare_ends.specs.Reaches.{end_from, end_to}
use Rattle.fare_law.specs.declared.names.Place.{Place}
use Rattle.fare_law.specs.declared.requests.Request.{Request}
use Rattle.fare_law.specs.Book.{Book, live_fare}
use Rattle.fare_law.specs.Lists.{AllDifferent, Each, IsIn}
use Rattle.fare_groups.specs.declared.group.FareGroup.{FareGroup}
use Rattle.fare_groups.specs.declared.group.GroupKey.{GroupKey}
use Rattle.flight_paths.specs.declared.positions.Position.{Position}
use Rattle.law_lemmas.proofs.Options.{not_both}
use Rattle.outlines.specs.declared.outline.Outline.{Outline}
use Rattle.outlines.specs.Outlines.{Outlined}
use Rattle.std.proofs.Common.{ℕ, ◌≢◌, List, [], ◌∷◌, map, inl, inr}

-- so some fare is filed its way
pub filed_some : (b : Book) (q : Request) (at : Position) (o : Outline) (price : ℕ) (h : Outlined b q at o price) (begin end : Place) → h.piece.begin ≡ begin → h.piece.end ≡ end → NoFare b (end_from o.reverse begin end) (end_to o.reverse begin end) → ⊥
filed_some b q at o price h begin end begin_is end_is none = go h.piece.reverse h.stands.filed (subst (λ r. NoFare b (end_from r begin end) (end_to r begin end)) h.outline.reverse none)
  where
    go : (r : Bool) → MatchBool r ((h.piece.fare.key.from ≡ h.piece.end) × (h.piece.fare.key.to ≡ h.piece.begin)) ((h.piece.fare.key.from ≡ h.piece.begin) × (h.piece.fare.key.to ≡ h.piece.end)) → NoFare b (end_from r begin end) (end_to r begin end) → ⊥
    go true f n = not_both (live_fare b h.piece.fare.key) h.piece.fare h.stands.fare (n h.piece.fare.key (f.0 ∙ end_is) (f.1 ∙ begin_is))
    go false f n = not_both (live_fare b h.piece.fare.key) h.piece.fare h.stands.fare (n h.piece.fare.key (f.0 ∙ begin_is) (f.1 ∙ end_is))

differs : (x : FareGroup) (gs : List FareGroup) → Each (λ (k : GroupKey). x.key ≢ k) (map (λ (g : FareGroup). g.key) gs) → (y : FareGroup) → IsIn y gs → x.key ≡ y.key → ⊥
differs x [] a y i e = i
differs x (g ∷ gs) a y (inl s) e = a.0 (e ∙ ap (λ (z : FareGroup). z.key) s)
differs x (g ∷ gs) a y (inr i) e = differs x gs a.1 y i e

-- groups of a sheet that have one key are one
pub one_group : (gs : List FareGroup) → AllDifferent (map (λ (g : FareGroup). g.key) gs) → (x y : FareGroup) → IsIn x gs → IsIn y gs → x.key ≡ y.key → x ≡ y
one_group [] a x y i j e = absurd i
one_group (g ∷ gs) a x y (inl s) (inl t) e = s ∙ sym t
one_group (g ∷ gs) a x y (inl s) (inr j) e = absurd (differs g gs a.0 y j (sym (ap (λ (z : FareGroup). z.key) s) ∙ e))
one_group (g ∷ gs) a x y (inr i) (inl t) e = absurd (differs g gs a.0 x i (sym (ap (λ (z : FareGroup). z.key) t) ∙ sym e))
one_group (g ∷ gs) a x y (inr i) (inr j) e = one_group gs a.1 x y i j e
