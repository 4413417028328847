use Rattle.ticket_whole.proofs.LabelsAmong.{Found}
use Rattle.ticket_whole.proofs.boundaries.few_between.Given as goal

abbrev pub invariant-loop-label : goal.invariant-loop-label
invariant-loop-label l = Found l.before l.after l.found l.label-index
