use Rattle.residual_keys.proofs.WordFacts.{Words}
use Rattle.residual_keys.proofs.ResidualRead.{one_text}
use Rattle.residual_keys.proofs.reading.one_residual_text.Goals as goal

pub returns : goal.returns
returns c =
    let known : Words = record { cut = c.cuts_tell.ensures.first; number = c.numbers_tell.ensures.number; digits = c.numbers_tell.ensures.digits } in
    one_text known c.cuts_tell.ensures.last
