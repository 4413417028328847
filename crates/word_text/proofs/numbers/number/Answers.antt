use Rattle.std.proofs.Common.{◌+◌, ◌∙◌, arith, refl, subst, ap}
use Rattle.std.proofs.lemmas.Int.Digits.{digits_more}
use Rattle.std.proofs.lemmas.List.{take_all}
use Rattle.std.specs.Str.Parse.{AllDigits, digits_value}
use Rattle.word_text.proofs.NumberLemmas.{number_of_digits, other_byte_in, too_great, value_more}
use Rattle.word_text.proofs.numbers.number.Goals as goal

pub loop-byte-init : goal.loop-byte-init
loop-byte-init c = (tt, refl, omega arith)

pub returns-then-not-is_ascii_digit : goal.returns-then-not-is_ascii_digit
returns-then-not-is_ascii_digit c = other_byte_in c.args.text.now c.loop-byte.byte-index c.loop-byte-test.true (λ h. grind (arith, c.if-not-is_ascii_digit.ensures.cases, h))

pub returns-in_err-number : goal.returns-in_err-number
returns-in_err-number c =
    let text = c.args.text.now in
    let i = c.loop-byte.byte-index in
    let more = value_more text i c.loop-byte-test.true c.if-not-is_ascii_digit.ensures.cases in
    c.from_residual.ensures ∙ too_great text (i + 1) (omega (arith, more, c.loop-byte.invariant.1, c.in_err-number.ensures))

pub loop-byte-preserved : goal.loop-byte-preserved
loop-byte-preserved c =
    let text = c.args.text.now in
    let i = c.loop-byte.byte-index in
    let digit = c.if-not-is_ascii_digit.ensures.cases in
    let more = value_more text i c.loop-byte-test.true digit in (
      digits_more 10 text i c.loop-byte-test.true c.loop-byte.invariant.0 c.if-not-is_ascii_digit.ensures.bound,
      omega (arith, more, c.loop-byte.invariant.1, c.in_ok-number.ensures),
      omega (arith, c.in_ok-number.ensures),
    )

pub returns : goal.returns
returns c =
    let text = c.args.text.now in
    let all = take_all c.loop-byte.byte-index text (omega (arith, c.loop-byte-test.false)) in
    let begins = c.begins_as_number.ensures.0 (cc) in
    number_of_digits text c.loop-byte.number begins (subst (AllDigits 10) all c.loop-byte.invariant.0) (c.loop-byte.invariant.1 ∙ ap (digits_value 10) all) c.loop-byte.invariant.2
