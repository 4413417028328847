use Rattle.std.proofs.Common.{length}
use Rattle.case_text.proofs.marks.+weekdays_after.Given as goal

abbrev pub decreases-weekdays_after : goal.decreases-weekdays_after
decreases-weekdays_after l = length l.text.now
