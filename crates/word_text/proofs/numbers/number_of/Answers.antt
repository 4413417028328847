use Rattle.std.proofs.Common.{arith, sym}
use Rattle.word_text.proofs.NumberLemmas.{number_within, number_past}
use Rattle.word_text.proofs.numbers.number_of.Goals as goal

pub returns-then-number-most-clause-value : goal.returns-then-number-most-clause-value
returns-then-number-most-clause-value c = number_within c.args.most c.in_ok-number.number c.args.text.now (sym c.in_ok-number.ensures) (omega arith)

pub returns-else-number-most-clause-value : goal.returns-else-number-most-clause-value
returns-else-number-most-clause-value c = number_past c.args.most c.in_ok-number.number c.args.text.now (omega arith) (sym c.in_ok-number.ensures) (omega arith)
