use Rattle.std.proofs.Common.{◌≤◌, length, sym, subst}
use Rattle.joint_paths.proofs.InOrder.{none_open, ordered_as, path_known, some_last}
use Rattle.joint_paths.proofs.tail_classes.open_tail.Goals as goal

pub returns-then-classes-eq0-clause-tail : goal.returns-then-classes-eq0-clause-tail
returns-then-classes-eq0-clause-tail c = none_open c.args.case.now.book.now c.args.case.now.request.now c.args.tail.now.path.now c.as_slice-numbers.result.now c.in_ok-classes.classes c.as_slice-numbers.ensures.items c.in_ok-classes.ensures.classes c.if-classes-eq0.true

pub returns-in_default-clause-tail : goal.returns-in_default-clause-tail
returns-in_default-clause-tail c = λ o. some_last c.args.case.now.book.now c.args.tail.now.path.now c.as_slice-numbers.result.now c.as_slice-numbers.ensures.items c.requires.path c.in_default.ensures.none

pub mark_of-mark-requires : goal.mark_of-mark-requires
mark_of-mark-requires c = path_known c.args.case.now.book.now c.args.tail.now.path.now c.as_slice-numbers.result.now c.as_slice-numbers.ensures.items c.requires.path

pub tail_with-found-requires-clause-some : goal.tail_with-found-requires-clause-some
tail_with-found-requires-clause-some c = subst (λ xs. 1 ≤ length xs) (sym c.as_slice-numbers.ensures.items) c.requires.path.some

pub tail_with-found-requires-clause-few : goal.tail_with-found-requires-clause-few
tail_with-found-requires-clause-few c = subst (λ xs. length xs ≤ 3) (sym c.as_slice-numbers.ensures.items) c.requires.path.few

pub returns-clause-tail : goal.returns-clause-tail
returns-clause-tail c =
    let f = c.tail_with-found.ensures in
    let l = c.led.ensures in
    ordered_as c.args.case.now.book.now c.args.case.now.request.now c.args.tail.now c.as_slice-numbers.result.now c.as_slice-numbers.ensures.items c.tail_with-found.result c.led.result c.in-Some.last.now c.in_ok-classes.classes c.mark_of-mark.result l.tail f.classes f.mark
    f.number f.first f.count c.in_ok-classes.ensures.classes c.mark_of-mark.ensures l.after c.in-Some.ensures.some.1 l.end l.last
