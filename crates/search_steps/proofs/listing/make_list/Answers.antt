use Rattle.std.proofs.Common.{subst}
use Rattle.search_steps.specs.Listing.{IsListed}
use Rattle.search_steps.specs.Shortening.{IsShorter}
use Rattle.search_steps.proofs.ListedSteps.{steps_shorter}
use Rattle.search_steps.proofs.listing.make_list.Goals as goal

pub returns-in_ok-kept-clause-steps : goal.returns-in_ok-kept-clause-steps
returns-in_ok-kept-clause-steps c =
    let steps = c.add_all.new.steps.items in
    let kept = c.in_ok-kept.kept.items in
    steps_shorter c.add_all.new.numbers (IsListed c.args.listing.now) c.args.table.now.entries.now steps kept (subst (λ ss. IsShorter ss kept) c.as_slice-then-not-leave_none_open.ensures.value c.in_ok-kept.ensures) c.in_ok-add_all.ensures.steps
