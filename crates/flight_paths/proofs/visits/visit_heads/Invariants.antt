use Rattle.std.proofs.Common.{take}
use Rattle.flight_paths.specs.Heads.{Saw, chosen}
use Rattle.flight_paths.specs.Plans.{plan_book}
use Rattle.flight_paths.proofs.Seeing.{AreSeen}
use Rattle.flight_paths.proofs.visits.visit_heads.Given as goal

abbrev pub invariant-loop-head : goal.invariant-loop-head
invariant-loop-head g l = Saw (g.V.PathVisitor.told l.initial.visitor) (g.V.PathVisitor.told l.visitor) (AreSeen (plan_book l.schedule) l.slices l.start (chosen l.tails.all.now l.tails.numbers.now) (take l.head-index l.heads))
