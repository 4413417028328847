use Rattle.std.proofs.Common.{arith}
use Rattle.search_steps.proofs.RunSteps.{run_on_to, run_one}
use Rattle.search_steps.proofs.runs.run_from.Goals as goal

pub loop-at-init : goal.loop-at-init
loop-at-init c = record { some = omega arith; at = omega arith; run = run_one c.args.entries.now c.args.bare.now c.args.from }

pub loop-at-preserved : goal.loop-at-preserved
loop-at-preserved c =
    let i = c.loop-at.invariant in
    let at = i.at in
    let some = i.some in
    record {
      some = omega arith;
      at = omega (arith, at);
      run = run_on_to c.args.entries.now c.args.bare.now c.args.from c.loop-at.count c.loop-at.at _ _ _ _ _ _ some at c.loop-at-test.true c.requires.many c.index-entries-last.is c.index-entries-at.is (c.is_alike.ensures c.if-not-is_alike.false) i.run;
    }
