use Rattle.std.proofs.Common.{◌∙◌, ◌++◌, Some, ap}
use Rattle.std.proofs.lemmas.Bool.Decides.{Decides-eqb}
use Rattle.std.proofs.lemmas.Slice.Eq.{strip_prefix_is}
use Rattle.residual_table.proofs.SlashAhead.{slash_first}
use Rattle.residual_table.proofs.key_reader.after_slash.Goals as goal

pub returns : goal.returns
returns c =
    let is = strip_prefix_is Decides-eqb c.args.text.now c.args.word.now (Some c.in_ok-strip_prefix.field-0) c.in_ok-strip_prefix.ensures.cases in
    is ∙ ap (λ t. c.args.word.now ++ t) (slash_first c.in_ok-strip_prefix.field-0.now 0 c.in-len1-up.len_at_least c.if-slash-ne47.false)
