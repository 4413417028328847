use Rattle.std.specs.Arc.{arc_value}
use Rattle.serving.proofs.FilingSteps.{none_refused}
use Rattle.serving.proofs.versions.filed_on.Goals as goal

pub unreachable-requires : goal.unreachable-requires
unreachable-requires c =
    let w = c.in-Err-Refused in
    none_refused c.args.book.now (arc_value c.args.filing.now) (arc_value c.in_ok-try_clone.field-0) w.field-0 w.field-0-0 w.field-0-is c.in_ok-try_clone.ensures c.requires.faultless w.ensures.refused
