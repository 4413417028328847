use Rattle.std.proofs.Common.{◌∙◌, ap}
use Rattle.case_maker.specs.Drawing.{Made, going_on}
use Rattle.case_maker.specs.MadeCase.{made_case, sections}
use Rattle.case_maker.proofs.PageSteps.{two}
use Rattle.case_maker.proofs.making.make.Goals as goal

pub returns : goal.returns
unfolding going_on made_case
returns c =
    c.into_text.ensures
    ∙ ap (λ m. m.text) (two _ _ _ c.in_ok-push_places.ensures (two _ _ _ c.in_ok-push_flights.ensures (two _ _ _ c.in_ok-push_seats.ensures (two _ _ _ c.in_ok-push_filing.ensures c.in_ok-say.ensures))))
    ∙ ap (λ (m : Made). (going_on m (sections c.args.size)).text) c.new-page.ensures
