use Rattle.std.proofs.Common.{◌∙◌, ◌-◌, ◌++◌, ◌∷◌, [], Some, ap, append_assoc, arith, length, take}
use Rattle.std.proofs.lemmas.Bool.Decides.{Decides-eqb}
use Rattle.std.proofs.lemmas.Slice.Eq.{strip_suffix_is}
use Rattle.residual_table.proofs.SpaceAhead.{space_last}
use Rattle.residual_table.proofs.ticket_reader.before_space.Goals as goal

pub returns : goal.returns
returns c =
    let front = c.in_ok-strip_suffix.field-0.now in
    let word = c.args.word.now in
    let is = strip_suffix_is Decides-eqb c.args.text.now word (Some c.in_ok-strip_suffix.field-0) c.in_ok-strip_suffix.ensures.cases in
    is ∙ (ap (λ t. t ++ word) (space_last front (length front - 1) 0 (omega (arith, c.in-len1-up.len_at_least)) c.if-space-ne32.false) ∙ append_assoc (take (length front - 1) front) (32 ∷ []) word)
