use Rattle.std.proofs.Common.{◌≡◌, [], ◌∷◌, ◌++◌, take, ap, sym, subst, ◌∙◌}
use Rattle.fare_law.specs.Lists.{KLeast}
use Rattle.best_steps.specs.Runs.{Sooner}
use Rattle.call_tests.specs.Switches.{HasSwitch, switch}
use Rattle.call_tests.proofs.SwitchLaws.{least_switches}
use Rattle.call_tests.proofs.runs.SwitchesSteps.first_steps.Goals as goal

pub returns-clause-least : goal.returns-clause-least
returns-clause-least c =
    let one = c.in_ok-push.ensures.items ∙ ap (λ z. z ++ c.in_ok-off.off ∷ []) c.new-both.ensures.items in
    let two = c.in_ok-push-2.ensures.items ∙ ap (λ z. z ++ c.in_ok-on.on ∷ []) one in
    let steps : c.push-2.new.self.items ≡ switch c.args.node 0 ∷ switch c.args.node 1 ∷ [] = two ∙ ap (λ z. z ∷ c.in_ok-on.on ∷ []) c.in_ok-off.ensures ∙ ap (λ z. switch c.args.node 0 ∷ z ∷ []) c.in_ok-on.ensures in
    let items = c.from_vec.ensures ∙ c.truncate.ensures.items ∙ ap (λ z. take c.args.wanted z) steps in
    subst (λ z. KLeast (HasSwitch c.args.node) Sooner c.args.wanted z) (sym items) (least_switches c.args.node c.args.wanted c.requires.node)
