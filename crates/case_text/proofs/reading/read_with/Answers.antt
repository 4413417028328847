use Rattle.std.proofs.Common.{◌∙◌, ◌+◌, sym, subst, arith, map, drop}
use Rattle.std.proofs.lemmas.Grind.{common_steps}
use Rattle.case_text.specs.Limits.{HasRows}
use Rattle.case_text.specs.Lines.{shown}
use Rattle.case_text.proofs.Feed.{follows_here}
use Rattle.case_text.proofs.Growing.{rows_added, reading_steps}
use Rattle.case_text.proofs.reading.read_with.Goals as goal

pub judged-requires : goal.judged-requires
judged-requires g c =
    c.in_ok-fields.ensures.fields (map shown (drop (c.loop-line.line-index + 1) c.args.lines.now)) (follows_here _ _ _ c.args.lines.now c.loop-line.line-index _ (omega arith) c.loop-line.invariant.ahead)

pub loop-line-preserved : goal.loop-line-preserved
loop-line-preserved g c = record {
  few = grind (arith, common_steps);
  rows = subst HasRows (sym c.in_ok-add.ensures) (rows_added c.loop-line.case c.in_ok-entry.entry c.loop-line.invariant.rows c.in_ok-entry.ensures.limits);
  rest = grind (arith, reading_steps);
  ahead = λ t. c.in_ok-fields.ensures.step (map shown (drop (c.loop-line.line-index + 1) c.args.lines.now)) (follows_here _ _ _ c.args.lines.now c.loop-line.line-index _ (omega arith) c.loop-line.invariant.ahead) (sym c.is_some-in_step.ensures ∙ t);
}
