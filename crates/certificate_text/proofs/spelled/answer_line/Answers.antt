use Rattle.certificate_text.proofs.LineWords.{Numbers}
use Rattle.certificate_text.proofs.LineLemmas.{answer_exact}
use Rattle.certificate_text.proofs.spelled.answer_line.Goals as goal

pub returns : goal.returns
returns c =
    let k : Numbers = record { number = c.numbers_tell.ensures.number; digits = c.numbers_tell.ensures.digits } in
    answer_exact k c.args.line.now c.answer_of.result c.answer_of.ensures
