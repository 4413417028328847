use Rattle.std.proofs.Common.{None, Some}
use Rattle.std.proofs.lemmas.Bool.Decides.{Decides-eqb}
use Rattle.std.proofs.lemmas.Slice.Eq.{strip_prefix_is}
use Rattle.certificate_text.proofs.WordLemmas.{label_none, label_of}
use Rattle.certificate_text.proofs.words.after.Goals as goal

pub returns-in_err-rest : goal.returns-in_err-rest
returns-in_err-rest c =
    rw c.from_residual.ensures
    (label_none c.args.label.now c.args.text.now (λ rest e. strip_prefix_is Decides-eqb c.args.text.now c.args.label.now None c.in_err-rest.ensures.cases rest e))

pub returns : goal.returns
returns c =
    label_of c.args.label.now c.args.text.now c.in_ok-rest.rest.now
    (strip_prefix_is Decides-eqb c.args.text.now c.args.label.now (Some c.in_ok-rest.rest) c.in_ok-rest.ensures.cases)
