use Rattle.std.proofs.Common.{◌≡◌, take}
use Rattle.cheap_moves.proofs.leads.by_group.Given as goal

abbrev pub invariant-loop-lead : goal.invariant-loop-lead
invariant-loop-lead l = l.sorted.items ≡ take l.lead-index l.leads
