use Rattle.std.proofs.Common.{◌≡◌, ◌∙◌, ◌+◌, ◌∷◌, ◌++◌, length, ap, sym, rules}
use Rattle.residual_keys.specs.ResidualText as Text
use Rattle.residual_keys.proofs.OneDigit.{digits_added, two_letters}
use Rattle.residual_keys.proofs.text.push_part.Goals as goal

pub returns-in_ok-extend_from_slice-in-NotYet : goal.returns-in_ok-extend_from_slice-in-NotYet
returns-in_ok-extend_from_slice-in-NotYet c =
    let old = c.args.text.now.items in
    let p = c.args.part.now in
    digits_added old c.extend_from_slice.new.self.items (Text.carriers_word p.carrier) p.units p.ends c.requires.units c.requires.ends
    (c.in_ok-extend_from_slice-in-NotYet.ensures.items ∙ ap (λ w. old ++ 32 ∷ (48 + p.units) ∷ 58 ∷ (48 + p.ends) ∷ 58 ∷ w) (sym (ap Text.carriers_word c.in-NotYet.is)))

pub returns-in_ok-extend_from_slice-in-One : goal.returns-in_ok-extend_from_slice-in-One
returns-in_ok-extend_from_slice-in-One c =
    let old = c.args.text.now.items in
    let p = c.args.part.now in
    let letters = c.in-One.carrier.0 in
    let two : length letters ≡ 2 = search rules in
    digits_added old c.extend_from_slice-in-One.new.self.items (Text.carriers_word p.carrier) p.units p.ends c.requires.units c.requires.ends
    (c.in_ok-extend_from_slice-in-One.ensures.items ∙ ap (λ w. old ++ 32 ∷ (48 + p.units) ∷ 58 ∷ (48 + p.ends) ∷ 58 ∷ w) (two_letters letters two ∙ sym (ap Text.carriers_word c.in-One.is)))

pub returns-in_ok-extend_from_slice-in-Mixed : goal.returns-in_ok-extend_from_slice-in-Mixed
returns-in_ok-extend_from_slice-in-Mixed c =
    let old = c.args.text.now.items in
    let p = c.args.part.now in
    digits_added old c.extend_from_slice-in-Mixed.new.self.items (Text.carriers_word p.carrier) p.units p.ends c.requires.units c.requires.ends
    (c.in_ok-extend_from_slice-in-Mixed.ensures.items ∙ ap (λ w. old ++ 32 ∷ (48 + p.units) ∷ 58 ∷ (48 + p.ends) ∷ 58 ∷ w) (sym (ap Text.carriers_word c.in-Mixed.is)))
