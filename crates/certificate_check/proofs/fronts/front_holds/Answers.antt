use Rattle.std.proofs.Common.{◌∙◌, refl}
use Rattle.certificate_check.proofs.Drawn.{drawings_still}
use Rattle.certificate_check.proofs.FrontTold.{front_none, front_some}
use Rattle.certificate_check.proofs.LaterSteps.{has_still}
use Rattle.certificate_check.proofs.fronts.front_holds.Goals as goal

pub find-requires-clause-table : goal.find-requires-clause-table
find-requires-clause-table c = has_still c.args.steps.now c.key_of.new.self c.in_ok-key.ensures.keeps c.args.table.now.bounds c.args.table.now.rows.now c.requires.table

pub find-requires-clause-drawings : goal.find-requires-clause-drawings
find-requires-clause-drawings c = drawings_still c.args.steps.now c.key_of.new.self c.args.table.now.rows.now (record { case = c.in_ok-key.ensures.case; keeps = c.in_ok-key.ensures.keeps }) c.args.drawings.now.kept.items c.requires.drawings

pub returns-in-Some-clause-holds : goal.returns-in-Some-clause-holds
returns-in-Some-clause-holds c =
    let front = c.args.front.now in
    let case = c.in_ok-key.ensures.case in
    let request = c.case.ensures.request ∙ c.in_ok-place.ensures.later.case.request ∙ case.request in
    front_some c.args.steps.now.case.book.now _ c.args.steps.now.case.request.now _ c.args.table.now.rows.now c.requires.differ c.args.answers.now front.moves.now front.residual _ front.price _ c.in_ok-place.place _ c.index.result.now c.as_slice.result.now
    case.book case.request c.in_ok-key.ensures.state c.in_ok-place.ensures.found c.index.ensures c.as_slice.ensures c.requires.leads _ c.in-Some.departing.now c.comes_after.result request c.requires.front c.in-Some.ensures c.comes_after.ensures

pub returns-in-None-clause-holds : goal.returns-in-None-clause-holds
returns-in-None-clause-holds c =
    let front = c.args.front.now in
    let case = c.in_ok-key.ensures.case in
    front_none c.args.steps.now.case.book.now _ c.args.steps.now.case.request.now _ c.args.table.now.rows.now c.requires.differ c.args.answers.now front.moves.now front.residual _ front.price _ c.in_ok-place.place _ c.index.result.now c.as_slice.result.now
    case.book case.request c.in_ok-key.ensures.state c.in_ok-place.ensures.found c.index.ensures c.as_slice.ensures c.requires.leads c.count_beginning-wanted.result refl c.count_beginning-wanted.ensures.counts c.in-None.ensures
