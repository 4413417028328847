use Rattle.std.proofs.Common.{subst}
use Rattle.search_steps.specs.Numbers.{IsBare}
use Rattle.search_steps.proofs.ListsByNumber.{bare_next, bare_whole, grows_on}
use Rattle.search_steps.proofs.stepping.bare_steps.Goals as goal

pub loop-entry-preserved : goal.loop-entry-preserved
loop-entry-preserved c = record {
  steps =
      bare_next c.loop-entry.numbers c.bare_step.new.numbers c.args.entries.now c.loop-entry.entry-index _ c.loop-entry.steps.items c.push.new.self.items c.in_ok-step.step c.bare_step.ensures.grows c.loop-entry-test.true
      c.loop-entry.invariant.steps (subst (λ e. IsBare c.bare_step.new.numbers e c.in_ok-step.step) c.entry-item.is c.in_ok-step.ensures.step) c.in_ok-push.ensures.items;
  grows = grows_on c.args.numbers.now c.loop-entry.numbers c.bare_step.new.numbers c.loop-entry.invariant.grows c.bare_step.ensures.grows;
}

pub returns-clause-steps : goal.returns-clause-steps
returns-clause-steps c = bare_whole c.loop-entry.numbers c.args.entries.now c.loop-entry.entry-index c.loop-entry.steps.items c.loop-entry-test.false c.loop-entry.invariant.steps
