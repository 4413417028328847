use Rattle.residual_keys.proofs.RolesHad.{all_choices}
use Rattle.residual_keys.proofs.choices.add_choices.Goals as goal

pub returns : goal.returns
returns c = all_choices c.args.residual.now c.args.component.now c.keeps.ensures.few
    c.args.found.now c.add_choice.new.found c.add_choice-2.new.found c.add_choice-3.new.found c.add_choice-4.new.found c.add_choice-5.new.found c.add_choice-6.new.found
    c.in_ok-add_choice.ensures c.in_ok-add_choice-2.ensures c.in_ok-add_choice-3.ensures c.in_ok-add_choice-4.ensures c.in_ok-add_choice-5.ensures c.in_ok-add_choice-6.ensures
