use Rattle.joint_paths.proofs.InOrder.{first_read}
use Rattle.joint_paths.proofs.tail_classes.tail_with.Goals as goal

pub returns-clause-first : goal.returns-clause-first
returns-clause-first c = first_read c.args.numbers.now _ c.requires.some
