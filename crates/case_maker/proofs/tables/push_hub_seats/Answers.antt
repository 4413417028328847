use Rattle.std.proofs.Common.{◌∙◌, ◌+◌, ap, ℕ, List}
use Rattle.case_maker.specs.Drawing.{Making, going_on, ◌before◌}
use Rattle.case_maker.specs.Names.{home, away}
use Rattle.case_maker.specs.Tables.{seat_row}
use Rattle.case_maker.proofs.PageSteps.{two}
use Rattle.law_lemmas.proofs.Options.{on_ok}
use Rattle.case_maker.proofs.tables.push_hub_seats.Goals as goal

abbrev seats_by : ℕ → List ℕ → Making
seats_by i name =
    seat_row (1000 + i) home before seat_row (2000 + i) name
    before seat_row (3000 + i) away before seat_row (4000 + i) name

pub returns : goal.returns
returns c =
    on_ok c.push_seat_row-4.result _ _
    (λ last. two _ _ _ c.in_ok-push_seat_row.ensures (two _ _ _ c.in_ok-push_seat_row-2.ensures (two _ _ _ c.in_ok-push_seat_row-3.ensures last))
    ∙ ap (λ name. going_on c.args.page.now (seats_by c.args.i name)) c.hub_name-hub.ensures)
    c.push_seat_row-4.ensures
