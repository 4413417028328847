use Rattle.std.proofs.Common.{◌∙◌, ap}
use Rattle.case_maker.specs.Drawing.{going_on, ◌before◌}
use Rattle.case_maker.specs.Filing.{short_fare}
use Rattle.case_maker.specs.Names.{home, away}
use Rattle.case_maker.proofs.PageSteps.{two}
use Rattle.law_lemmas.proofs.Options.{on_ok}
use Rattle.case_maker.proofs.filing.push_hub_fares.Goals as goal

pub returns : goal.returns
returns c =
    on_ok c.push_short_fare-2.result _ _
    (λ last. two _ _ _ c.in_ok-push_short_fare.ensures last
    ∙ ap (λ name. going_on c.args.page.now (short_fare home name before short_fare name away)) c.hub_name-hub.ensures)
    c.push_short_fare-2.ensures
