use Rattle.std.proofs.Common.{sym}
use Rattle.certificate_text.proofs.LineWords.{Numbers}
use Rattle.certificate_text.proofs.LineLemmas.{has_words, row_no_bound, row_no_cut, row_no_label}
use Rattle.certificate_text.proofs.spelled.row_words.Goals as goal

pub returns-in_err-rest : goal.returns-in_err-rest
returns-in_err-rest c = rw c.from_residual.ensures (row_no_label c.args.line.now c.in_err-rest.ensures)

pub returns-in_err-residual : goal.returns-in_err-residual
returns-in_err-residual c =
    let k : Numbers = record { number = c.numbers_tell.ensures.number; digits = c.numbers_tell.ensures.digits } in
    rw c.from_residual-in_err-residual.ensures (row_no_cut c.cuts_tell.ensures.last k c.args.line.now c.in_ok-rest.rest.now c.in_ok-rest.ensures c.in_err-residual.ensures)

pub returns-in_err-bound : goal.returns-in_err-bound
returns-in_err-bound c =
    let k : Numbers = record { number = c.numbers_tell.ensures.number; digits = c.numbers_tell.ensures.digits } in
    rw c.from_residual-in_err-bound.ensures
    (row_no_bound c.cuts_tell.ensures.last k c.args.line.now c.in_ok-rest.rest.now (c.in_ok-residual.residual.now, c.in_ok-residual.bound.now) c.in_ok-rest.ensures c.in_ok-residual.ensures (sym c.in_err-bound.ensures))

pub returns : goal.returns
returns c =
    let k : Numbers = record { number = c.numbers_tell.ensures.number; digits = c.numbers_tell.ensures.digits } in
    has_words c.cuts_tell.ensures.last k c.args.line.now c.in_ok-rest.rest.now (c.in_ok-residual.residual.now, c.in_ok-residual.bound.now) c.in_ok-bound.bound c.in_ok-rest.ensures c.in_ok-residual.ensures (sym c.in_ok-bound.ensures)
