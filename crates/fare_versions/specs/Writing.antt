-- What a clause reads of the writer of the store.
use Rattle.std.specs.Prelude.{List, drop}
use Rattle.left_right.specs.Sides.{view}
use Rattle.left_right.specs.declared.Absorb.{Ghosts}
use Rattle.left_right.specs.declared.writer.Writer.{Writer}

module _ {T O V P A S : Type 0} {g : Ghosts T O S} where
  -- what readers take
  abbrev pub shown : Writer T O V P A S g → T
  shown w = w.desk.shown.value

  -- the operations that readers don't see yet
  abbrev pub pending : Writer T O V P A S g → List O
  pending w = drop w.behind w.log.items

  -- what the writer has seen, by the rule
  abbrev pub last_seen : Writer T O V P A S g → V
  last_seen w = view w.desk.place
