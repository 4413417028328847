-- Steps that keep the rule of the store: what is published grows, someone looks, a new reader comes and is told what the
-- writer has seen. For `publish`, `looked` and `watch`.
use Rattle.std.proofs.Common.{◌≡◌, ℕ, ◌≢◌, List, Option, Some, None, set, refl, subst, ◌∙◌, ⊎_elim}
use mathlib.Core.Option.{some}
use lib.ListN.{get_elem?}
use Rattle.left_right.specs.Register.{Admits, TurnsAt, Forks, Merges}
use Rattle.atomic_table.proofs.Lists.{at_set, at_snoc}
use Rattle.fare_versions.specs.Published.{Published, Grows}
use Rattle.fare_versions.specs.Growing.{IsNoLater, OnlyGrows, Saw}
use Rattle.law_lemmas.proofs.Lists.{prefix_self, prefix_trans}

pub grows_self : (p : Published) → Grows p p
grows_self p = record { house = refl; timetable = refl; entries = prefix_self p.book.entries }

pub grows_same : (p q : Published) → p ≡ q → Grows p q
grows_same p q e = subst (Grows p) e (grows_self p)

grows_trans : (p q r : Published) → Grows p q → Grows q r → Grows p r
grows_trans p q r a b = record {
  house = b.house ∙ a.house;
  timetable = b.timetable ∙ a.timetable;
  entries = prefix_trans p.book.entries q.book.entries r.book.entries a.entries b.entries;
}

-- what is no later than x is no later than what grew from x
later_still : (v : Option Published) (x y : Published) → Grows x y → IsNoLater x v → IsNoLater y v
later_still None x y up h = tt
later_still (Some p) x y up h = grows_trans p x y h up

-- a new seat has seen nothing
pub admits : Admits OnlyGrows None
admits x views h seat v at = ⊎_elim (h seat v) (λ (e : None ≡ v). subst (IsNoLater x) e tt) (at_snoc views None v seat at)

-- from x to y, which grew from x, with the seat seeing y
pub turns : (seat : ℕ) (v : Option Published) (x y : Published) → Grows x y → TurnsAt OnlyGrows seat v x y Saw
turns seat v x y up views h at = (
  Some y,
  (λ j u e. ⊎_elim (λ (t : (j ≡ seat) × (Some y ≡ u)). subst (IsNoLater y) t.1 (grows_self y)) (λ (t : (j ≢ seat) × (get_elem? views j ≡ some u)). later_still u x y up (h j u t.1))
      (at_set views seat j (Some y) u e)),
  (refl, later_still v x y up (h seat v at)),
)

set_keeps : (x : Published) (views : List (Option Published)) (seat : ℕ) (v : Option Published) → OnlyGrows x views → IsNoLater x v → OnlyGrows x (set views seat v)
set_keeps x views seat v h fit j u e =
    ⊎_elim (λ (t : (j ≡ seat) × (v ≡ u)). subst (IsNoLater x) t.1 fit) (λ (t : (j ≢ seat) × (get_elem? views j ≡ some u)). h j u t.1) (at_set views seat j v u e)

-- a seat's view is copied to a new seat
pub forks : (seat : ℕ) (v : Option Published) → Forks OnlyGrows seat v v v
forks seat v x views h at j u e =
    ⊎_elim (set_keeps x views seat v h (h seat v at) j u) (λ (same : v ≡ u). subst (IsNoLater x) same (h seat v at)) (at_snoc (set views seat v) v u j e)

-- a seat takes over the view of another, which has then seen nothing
pub merges : (seat : ℕ) (v : Option Published) (other : ℕ) (w : Option Published) → Merges OnlyGrows seat v other w w None
merges seat v other w x views h at apart there =
    let b : IsNoLater x w =
    ⊎_elim (λ (t : (other ≡ seat) × (w ≡ w)). absurd (apart t.0)) (λ (t : (other ≢ seat) × (get_elem? views other ≡ some w)). h other w t.1) (at_set views seat other w w there) in
    set_keeps x (set views seat w) other None (set_keeps x views seat w h b) tt
