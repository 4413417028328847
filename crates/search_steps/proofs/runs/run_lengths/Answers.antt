use Rattle.std.proofs.Common.{subst, sym, arith}
use Rattle.search_steps.specs.Runs.{IsRunAt}
use Rattle.search_steps.proofs.RunSteps.{run_on, runs_many, runs_next}
use Rattle.search_steps.proofs.runs.run_lengths.Goals as goal
use Rattle.search_steps.proofs.runs.run_lengths.Goals.{else-left-eq0, then-left-eq0}

-- how many are left of the run at the place, whether it begins there or not
run_here : (c : goal.After-row_known-1) → IsRunAt c.args.entries.now c.args.bare.now c.loop-at.at c.if-left-eq0.left
run_here c = elim c.if-left-eq0.branch [
  | then-left-eq0 w ↦
      let e = w.run_from-left.ensures in
      subst (IsRunAt c.args.entries.now c.args.bare.now c.loop-at.at) (sym w.left-is) (record { some = e.some; within = e.within; run = e.run })
  | else-left-eq0 w ↦
      let not = w.if-left-eq0.false in
      let i = c.loop-at.invariant in
      subst (IsRunAt c.args.entries.now c.args.bare.now c.loop-at.at) (sym w.left-is) (record { some = omega (arith, not); within = i.within; run = i.run })
]

pub loop-at-preserved : goal.loop-at-preserved
loop-at-preserved c =
    let es = c.args.entries.now in
    let bs = c.args.bare.now in
    let here = run_here c in
    let on = run_on es bs c.loop-at.at c.if-left-eq0.left here in
    record {
      many = runs_many c.loop-at.lengths.items c.push.new.self.items c.loop-at.at c.if-left-eq0.left c.loop-at.invariant.many c.in_ok-push.ensures.items;
      each = runs_next es bs c.loop-at.lengths.items c.push.new.self.items c.loop-at.at c.if-left-eq0.left c.loop-at.invariant.many c.loop-at.invariant.each here c.in_ok-push.ensures.items;
      within = on.0;
      run = on.1;
    }
