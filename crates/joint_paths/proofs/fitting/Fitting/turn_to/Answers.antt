use Rattle.std.proofs.Common.{◌+◌, None, bit_or, get_or, refl, subst, sym}
use Rattle.joint_paths.specs.declared.tail_classes.JoinTail.{JoinTail}
use Rattle.joint_paths.specs.Tails.{IsJoinTail}
use Rattle.joint_paths.proofs.FitFacts.{AreTurned, turned_all, turned_more}
use Rattle.law_lemmas.proofs.EachOne.{each_at}
use Rattle.law_lemmas.proofs.Lists.{got_read}
use Rattle.joint_paths.proofs.fitting.Fitting.turn_to.Goals as goal

abbrev no_tail : JoinTail
no_tail = record { number = 0; first = 0; count = 0; classes = 0; mark = 0 }

pub classes_before-classes-requires-clause-tail : goal.classes_before-classes-requires-clause-tail
classes_before-classes-requires-clause-tail c =
    let k = c.args.bucket.now in
    each_at (IsJoinTail k.case.now.book.now k.case.now.request.now k.paths.now) c.args.tails.now c.loop-tail.tail-index no_tail c.requires.tails c.loop-tail-test.true

pub loop-tail-preserved : goal.loop-tail-preserved
loop-tail-preserved c =
    let k = c.args.bucket.now in
    let ts = c.args.tails.now in
    let i = c.loop-tail.tail-index in
    let old = c.loop-tail.self in
    let classes = c.classes_before-classes.result in
    record {
      heads = c.loop-tail.invariant.heads;
      turned = subst (λ xs. AreTurned k ts (i + 1) xs (bit_or old.whole classes)) (sym c.in_ok-push.ensures.items) (turned_more k ts i old.tails.items old.whole (get_or ts i no_tail) (record { classes = classes; listed = None }) c.loop-tail.invariant.turned (got_read ts i no_tail c.loop-tail-test.true) c.classes_before-classes.ensures refl);
      charges = c.loop-tail.invariant.charges;
    }

pub returns-clause-fits : goal.returns-clause-fits
returns-clause-fits c = turned_all c.args.bucket.now c.args.tails.now c.loop-tail.tail-index c.loop-tail.self c.loop-tail-test.false c.loop-tail.invariant.turned
