use Rattle.std.proofs.Common.{MatchOption, Option, subst}
use Rattle.joint_paths.specs.declared.tail_classes.OrderedTail.{OrderedTail}
use Rattle.joint_paths.specs.Ordered.{IsOrdered}
use Rattle.joint_paths.specs.Tails.{IsOpen}
use Rattle.joint_paths.proofs.InOrder.{open_tail, unknown_tail}
use Rattle.joint_paths.proofs.tail_classes.add_ordered.Goals as goal

pub returns-in_ok-push-in-Some-clause-added : goal.returns-in_ok-push-in-Some-clause-added
returns-in_ok-push-in-Some-clause-added c =
    let b = c.args.case.now.book.now in
    let q = c.args.case.now.request.now in
    let t = c.args.tail.now in
    open_tail b q t c.args.tails.now.items c.in-Some.found c.push.new.self.items c.in_ok-push-in-Some.ensures.items (subst (λ (o : Option OrderedTail). MatchOption o (IsOpen b q t.path.now → ⊥) (IsOrdered b q t)) c.in-Some.is c.in_ok-made.ensures.tail)

pub returns-in-None-clause-added : goal.returns-in-None-clause-added
returns-in-None-clause-added c =
    let b = c.args.case.now.book.now in
    let q = c.args.case.now.request.now in
    let t = c.args.tail.now in
    unknown_tail b q t c.args.tails.now.items (subst (λ (o : Option OrderedTail). MatchOption o (IsOpen b q t.path.now → ⊥) (IsOrdered b q t)) c.in-None.is c.in_ok-made.ensures.tail)
