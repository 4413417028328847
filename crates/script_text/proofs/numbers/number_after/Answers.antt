use Rattle.std.proofs.Common.{None, Some}
use Rattle.std.proofs.lemmas.Bool.Decides.{Decides-eqb}
use Rattle.std.proofs.lemmas.Slice.Eq.{strip_prefix_is}
use Rattle.script_text.proofs.NumberLemmas.{labelled}
use Rattle.script_text.proofs.numbers.number_after.Goals as goal

pub returns-in_err-strip_prefix : goal.returns-in_err-strip_prefix
returns-in_err-strip_prefix c =
    rw c.from_residual.ensures (λ n h. strip_prefix_is Decides-eqb c.args.text.now c.args.label.now None c.in_err-strip_prefix.ensures.cases _ h.written)

pub returns : goal.returns
returns c =
    labelled c.args.label.now c.args.text.now c.in_ok-strip_prefix.field-0.now c.args.low c.args.high c.number_within.result
    (strip_prefix_is Decides-eqb c.args.text.now c.args.label.now (Some c.in_ok-strip_prefix.field-0) c.in_ok-strip_prefix.ensures.cases) c.number_within.ensures
