use Rattle.std.proofs.Common.{◌∙◌, ap, List, ℕ, [], ◌∷◌, codes, decimal}
use Rattle.market_time.specs.Clock.{time_text}
use Rattle.case_maker.specs.declared.legs.Leg.{Leg}
use Rattle.case_maker.specs.Drawing.{Made, going_on}
use Rattle.case_maker.specs.Tables.{row}
use Rattle.law_lemmas.proofs.Options.{on_ok}
use Rattle.case_maker.proofs.tables.push_flight.Goals as goal

abbrev written : Made → Leg → List ℕ → List ℕ → List ℕ → Made
written page leg number departs arrives =
    going_on page (row (codes "MX" ∷ number ∷ leg.from ∷ leg.to ∷ departs ∷ codes "+00:00" ∷ arrives ∷ codes "+00:00" ∷ codes "0" ∷ leg.date ∷ leg.date ∷ codes "1" ∷ []))

pub returns : goal.returns
returns c =
    let page = c.args.page.now in
    let leg = c.args.leg in
    on_ok c.say_row.result _ _
    (λ said. said ∙ ap (λ n. written page leg n c.clock_time-departure.result c.clock_time-arrival.result) (c.as_bytes-number.ensures.value ∙ c.format.ensures.text)
    ∙ ap (λ d. written page leg (decimal leg.number) d c.clock_time-arrival.result) c.clock_time-departure.ensures
    ∙ ap (λ a. written page leg (decimal leg.number) (time_text c.args.departs) a) c.clock_time-arrival.ensures)
    c.say_row.ensures
