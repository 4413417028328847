use Rattle.std.proofs.Common.{drop, sym}
use Rattle.std.proofs.lemmas.List.{take-append-drop}
use Rattle.law_lemmas.proofs.Lists.{prefix_self}
use Rattle.joint_paths.proofs.joining.first_few.Goals as goal

pub returns-then-heads-lt-FEW : goal.returns-then-heads-lt-FEW
returns-then-heads-lt-FEW c = prefix_self c.args.heads.now

pub returns : goal.returns
returns c = (drop 8 c.args.heads.now, sym (take-append-drop 8 c.args.heads.now))
