use Rattle.std.proofs.Common.{take}
use Rattle.joint_paths.specs.JoinEnds.{AddsPlaceEnds}
use Rattle.joint_paths.proofs.join_ends.add_places.Given as goal

abbrev pub invariant-loop-end : goal.invariant-loop-end
invariant-loop-end l = AddsPlaceEnds l.case.book.now (take l.end-index l.tails) l.place l.initial.found.items l.found.items
