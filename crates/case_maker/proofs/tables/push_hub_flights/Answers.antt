use Rattle.std.proofs.Common.{◌∙◌, ◌+◌, ap, ℕ, List}
use Rattle.case_maker.specs.Drawing.{Making, going_on, ◌before◌}
use Rattle.case_maker.specs.Names.{home, away, out_date, back_date}
use Rattle.case_maker.specs.Tables.{drawn_flight}
use Rattle.case_maker.proofs.PageSteps.{two}
use Rattle.law_lemmas.proofs.Options.{on_ok}
use Rattle.case_maker.proofs.tables.push_hub_flights.Goals as goal

abbrev flights_by : ℕ → List ℕ → Making
flights_by i name =
    drawn_flight (record { number = 1000 + i; from = home; to = name; date = out_date }) 360 60
    before drawn_flight (record { number = 2000 + i; from = name; to = away; date = out_date }) 720 240
    before drawn_flight (record { number = 3000 + i; from = away; to = name; date = back_date }) 360 60
    before drawn_flight (record { number = 4000 + i; from = name; to = home; date = back_date }) 720 240

pub returns : goal.returns
returns c =
    on_ok c.push_drawn_flight-4.result _ _
    (λ last. two _ _ _ c.in_ok-push_drawn_flight.ensures (two _ _ _ c.in_ok-push_drawn_flight-2.ensures (two _ _ _ c.in_ok-push_drawn_flight-3.ensures last))
    ∙ ap (λ name. going_on c.args.page.now (flights_by c.args.i name)) c.hub_name-hub.ensures)
    c.push_drawn_flight-4.ensures
