use Rattle.serving.proofs.LineSteps.{whole_history}
use Rattle.serving.proofs.headings.push_history.Goals as goal

pub returns : goal.returns
returns c =
    whole_history c.args.text.now.items c.push_count.new.text.items c.push_opening.new.text.items c.push_entries.new.text.items c.push_refusals.new.text.items c.args.opening c.args.filed.now c.args.count
    c.in_ok-push_count.ensures c.in_ok-push_opening.ensures c.in_ok-push_entries.ensures c.in_ok-push_refusals.ensures
