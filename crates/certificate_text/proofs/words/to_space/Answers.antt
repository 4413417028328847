use Rattle.std.proofs.Common.{arith}
use Rattle.certificate_text.proofs.WordLemmas.{past_end, spaced_none}
use Rattle.certificate_text.proofs.words.to_space.Goals as goal

pub returns : goal.returns
returns c = spaced_none c.args.text.now _ c.loop-at.at (omega arith) (past_end c.args.text.now) c.loop-at.invariant
