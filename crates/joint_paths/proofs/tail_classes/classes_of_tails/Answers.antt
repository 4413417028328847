use Rattle.joint_paths.specs.Ordered.{AreMadeOf}
use Rattle.joint_paths.specs.Tails.{AreTailClasses}
use Rattle.joint_paths.proofs.InOrder.{tails_made}
use Rattle.law_lemmas.proofs.Options.{if_ok}
use Rattle.joint_paths.proofs.tail_classes.classes_of_tails.Goals as goal

pub returns-clause-classes : goal.returns-clause-classes
returns-clause-classes c =
    let b = c.args.case.now.book.now in
    let q = c.args.case.now.request.now in
    let ps = c.args.paths.now in
    let ts = c.in_ok-tails.tails.items in
    if_ok c.classes_made.result (AreMadeOf ts) (AreTailClasses b q ps) (λ known made. tails_made b q ps ts known c.in_ok-tails.ensures.tails made) c.classes_made.ensures
