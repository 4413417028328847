use Rattle.residual_keys.proofs.WordFacts.{Words}
use Rattle.residual_keys.proofs.ResidualRead.{read_none, read_exact}
use Rattle.residual_keys.proofs.reading.read_residual.Goals as goal

pub returns-in_err-parts : goal.returns-in_err-parts
returns-in_err-parts c =
    let known : Words = record { cut = c.cuts_tell.ensures.first; number = c.numbers_tell.ensures.number; digits = c.numbers_tell.ensures.digits } in
    rw c.from_residual.ensures (λ x. read_none known c.cuts_tell.ensures.last c.args.bytes.now c.in_err-parts.ensures x)

pub returns : goal.returns
returns c =
    let known : Words = record { cut = c.cuts_tell.ensures.first; number = c.numbers_tell.ensures.number; digits = c.numbers_tell.ensures.digits } in
    λ x. read_exact known c.cuts_tell.ensures.last c.args.bytes.now c.in_ok-parts.parts c.checked.result c.in_ok-parts.ensures c.checked.ensures.made c.checked.ensures.parts x
