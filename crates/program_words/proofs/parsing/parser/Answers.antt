use Rattle.std.proofs.Common.{◌∙◌, ap₂}
use Rattle.std.proofs.lemmas.Result.{IfOk-weaker}
use Rattle.clap.specs.Words.{with_rule}
use Rattle.program_words.proofs.parsing.parser.Goals as goal

pub returns : goal.returns
returns c =
    let a1 = c.in_ok-parser.ensures ∙ ap₂ with_rule c.bare.ensures c.name.ensures.is in
    let a2 = c.in_ok-parser-2.ensures ∙ ap₂ with_rule a1 c.option.ensures.is in
    let a3 = c.in_ok-parser-3.ensures ∙ ap₂ with_rule a2 c.option-2.ensures.is in
    let a4 = c.in_ok-parser-4.ensures ∙ ap₂ with_rule a3 c.option-3.ensures.is in
    let a5 = c.in_ok-parser-5.ensures ∙ ap₂ with_rule a4 c.option-4.ensures.is in
    let a6 = c.in_ok-parser-6.ensures ∙ ap₂ with_rule a5 c.option-5.ensures.is in
    let a7 = c.in_ok-parser-7.ensures ∙ ap₂ with_rule a6 c.option-6.ensures.is in
    let a8 = c.in_ok-parser-8.ensures ∙ ap₂ with_rule a7 c.option-7.ensures.is in
    IfOk-weaker c.add-9.result _ _ (λ m h. h ∙ ap₂ with_rule a8 c.flag.ensures.is) c.add-9.ensures
