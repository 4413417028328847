use Rattle.std.proofs.Common.{refl}
use Rattle.fare_ends.proofs.MaskFacts.{classes_next, classes_none}
use Rattle.fare_ends.proofs.masks.Masks.classes_of.Goals as goal

pub loop-number-init : goal.loop-number-init
loop-number-init c = record { masks = c.requires; classes = classes_none c.args.book.now c.args.request.now }

pub loop-number-preserved : goal.loop-number-preserved
loop-number-preserved c = record {
  masks = c.mask.ensures.masks;
  classes = classes_next c.args.book.now c.args.request.now c.args.numbers.now c.loop-number.number-index _ c.loop-number.classes c.in_ok-classes.field-0 c.loop-number-test.true refl c.loop-number.invariant.classes c.in_ok-classes.ensures.mask;
}
