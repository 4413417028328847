use Rattle.std.proofs.Common.{◌∙◌, sym}
use Rattle.std.proofs.lemmas.Bool.{not-false, not-true}
use Rattle.certificate.specs.contracts.parts.CertRowPartialEq.TheImpl as row
use Rattle.certificate.proofs.StandingRows.{alike, unlike}
use Rattle.certificate.proofs.rows.are_same.Goals as goal

pub returns-then-ne : goal.returns-then-ne
returns-then-ne c = unlike row.ghosts.eq c.args.one.now c.args.other.now c.loop-place.place c.row.result c.row-in-loop-place.result c.row.ensures c.row-in-loop-place.ensures c.loop-place.invariant (not-true _ (sym c.ne.ensures ∙ c.if-ne.true))

pub loop-place-preserved : goal.loop-place-preserved
loop-place-preserved c = alike row.ghosts.eq c.args.one.now c.args.other.now c.loop-place.place c.row.result c.row-in-loop-place.result c.row.ensures c.row-in-loop-place.ensures c.loop-place.invariant (not-false _ (sym c.ne.ensures ∙ c.if-ne.false))
