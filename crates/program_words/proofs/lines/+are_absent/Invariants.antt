use Rattle.std.proofs.Common.{length}
use Rattle.program_words.proofs.lines.+are_absent.Given as goal

abbrev pub decreases-are_absent : goal.decreases-are_absent
decreases-are_absent l = length l.options.now
