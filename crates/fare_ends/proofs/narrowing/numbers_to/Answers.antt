use Rattle.std.proofs.Common.{get_or, subst, sym, ◌∙◌, arith, ◌+◌}
use Rattle.fare_ends.proofs.Wanted.{AreBefore, all_before, one_kept, one_left}
use Rattle.law_lemmas.proofs.Lists.{got_read}
use Rattle.fare_ends.proofs.narrowing.numbers_to.Goals as goal
use Rattle.fare_ends.proofs.narrowing.numbers_to.Goals.{then-is_wanted+in_ok-push, else-is_wanted}

pub loop-number-preserved : goal.loop-number-preserved
loop-number-preserved c =
    let wanted = c.args.wanted.now in
    let ends = c.args.ends.now in
    let at = c.loop-number.number in
    let old = c.loop-number.invariant in
    elim c.if-is_wanted.branch [
      | then-is_wanted+in_ok-push w ↦ subst (AreBefore wanted ends (at + 1)) (sym (w.numbers-is ∙ w.in_ok-push.ensures.items)) (one_kept wanted ends at c.loop-number.numbers old)
      | else-is_wanted w ↦
          let left = one_left wanted ends at (get_or ends at 0) c.loop-number.numbers (got_read ends at 0 c.loop-number-test.true) (sym c.is_wanted.ensures ∙ w.if-is_wanted.false) old in
          subst (AreBefore wanted ends (at + 1)) (sym w.numbers-is) left
    ]

pub returns : goal.returns
returns c = all_before c.args.wanted.now c.args.ends.now c.loop-number.number c.loop-number.numbers (omega (arith, c.loop-number-test.false, c.loop-number.auto.number-end)) c.loop-number.invariant
