-- What keeping a node tells, and which offers a node has.
use Rattle.std.specs.Prelude.{◌≡◌}
use Rattle.fare_component.specs.Keys.{Asked}
use Rattle.node_publish.specs.Homes.{HasNoRoom, Known, Knows}
use Rattle.node_publish.specs.declared.store.Kept.{Kept}
use Rattle.node_publish.specs.declared.store.Kept.TheVariants.{Here, NoRoom}

abbrev pub IsKept : Kept → Asked → Known → Type 0
IsKept (Here node) a p = (node.now ≡ a) × Knows p a
IsKept NoRoom a p = HasNoRoom p a

abbrev pub IsHere : Kept → Type 0
IsHere (Here node) = Unit {0}
IsHere NoRoom = ⊥
