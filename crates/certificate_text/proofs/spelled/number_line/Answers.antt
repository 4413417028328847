use Rattle.certificate_text.proofs.LineWords.{Numbers, number_exact}
use Rattle.certificate_text.proofs.spelled.number_line.Goals as goal

pub returns : goal.returns
returns c =
    let k : Numbers = record { number = c.numbers_tell.ensures.number; digits = c.numbers_tell.ensures.digits } in
    number_exact k c.args.name.now c.args.line.now c.number_after.result c.number_after.ensures
