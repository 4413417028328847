use Rattle.residual_keys.proofs.RolesHad.{choice_made, no_choice}
use Rattle.residual_keys.proofs.choices.add_choice.Goals as goal

pub returns-in_ok-push-in-Some : goal.returns-in_ok-push-in-Some
returns-in_ok-push-in-Some c = choice_made c.args.residual.now c.args.component.now c.args.role c.args.slot c.move_of.result c.in-Some.next c.args.found.now c.push.new.self c.move_of.ensures c.in-Some.ensures.some c.in_ok-push-in-Some.ensures.items

pub returns-in-None : goal.returns-in-None
returns-in-None c = no_choice c.args.residual.now c.args.component.now c.args.role c.args.slot c.args.found.now c.in-None.ensures.none
