use Rattle.std.proofs.Common.{ap, ◌∙◌, ◌∷◌, [], codes}
use Rattle.case_maker.specs.Drawing.{going_on}
use Rattle.case_maker.specs.Tables.{row}
use Rattle.case_maker.proofs.PageSteps.{none, more, two, all}
use Rattle.case_maker.proofs.tables.push_places.Goals as goal

pub loop-i-init : goal.loop-i-init
loop-i-init c = none _ _

pub loop-i-preserved : goal.loop-i-preserved
loop-i-preserved c =
    more _ _ c.loop-i.i c.loop-i.invariant
    (c.in_ok-say_row.ensures ∙ ap (λ name. going_on c.loop-i.page (row (name ∷ codes "45" ∷ []))) c.hub_name.ensures)

pub returns : goal.returns
returns c =
    two c.args.page.now _ _ c.in_ok-say.ensures
    (all _ _ c.args.size c.loop-i.i c.loop-i-test.false c.loop-i.auto.i-end c.loop-i.invariant)
