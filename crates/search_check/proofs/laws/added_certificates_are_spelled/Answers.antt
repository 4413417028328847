use Rattle.residual_keys.proofs.WordFacts.{Words}
use Rattle.search_check.proofs.SameCases.{added_is_spelled, text_is_spelled}
use Rattle.search_check.proofs.laws.added_certificates_are_spelled.Goals as goal

pub returns-clause-lines : goal.returns-clause-lines
returns-clause-lines c = added_is_spelled

pub returns-clause-text : goal.returns-clause-text
returns-clause-text c =
    let k : Words = record { cut = c.cuts_tell.ensures.first; number = c.numbers_tell.ensures.number; digits = c.numbers_tell.ensures.digits } in
    text_is_spelled k
