use Rattle.std.proofs.Common.{arith, rules, slice_index_or}
use Rattle.std.specs.Int.{IsInRange}
use Rattle.residual_keys.proofs.OneDigit.{digit_word}
use Rattle.residual_keys.proofs.words.byte_of.Goals as goal

pub returns-in-len1 : goal.returns-in-len1
returns-in-len1 c =
    let digit : IsInRange 48 57 (slice_index_or c.args.word.now 0 0) = search rules in
    digit_word c.numbers_tell.ensures.number c.args.word.now (omega (arith, c.in-len1.len_at_least, c.in-len1.len_below)) digit
