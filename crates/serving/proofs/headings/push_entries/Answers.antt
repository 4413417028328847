use Rattle.std.proofs.Common.{refl}
use Rattle.serving.specs.Lines.{entry_line}
use Rattle.serving.proofs.LineSteps.{line_more, lines_all}
use Rattle.serving.proofs.headings.push_entries.Goals as goal

pub loop-at-preserved : goal.loop-at-preserved
loop-at-preserved c = line_more entry_line c.args.filed.now c.loop-at.at _ _ c.loop-at.text.items c.push_entry.new.text.items _ c.loop-at-test.true refl c.in_ok-push_entry.ensures c.loop-at.invariant

pub returns : goal.returns
returns c = lines_all entry_line c.args.filed.now c.loop-at.at c.loop-at.text.items _ c.loop-at-test.false c.loop-at.invariant
