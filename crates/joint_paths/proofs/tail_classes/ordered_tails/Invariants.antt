use Rattle.fare_ends.specs.Masks.{AreMasks}
use Rattle.fare_law.specs.Lists.{Each}
use Rattle.joint_paths.specs.Ordered.{AllOrdered, StandsOrdered}
use Rattle.joint_paths.proofs.tail_classes.ordered_tails.Given as goal

abbrev pub invariant-loop-number : goal.invariant-loop-number
invariant-loop-number l = record {
  masks : AreMasks l.case.book.now l.case.request.now l.masks;
  each : Each (StandsOrdered l.case.book.now l.case.request.now l.paths) l.tails.items;
  all : AllOrdered l.case.book.now l.case.request.now l.paths l.number l.tails.items;
}
