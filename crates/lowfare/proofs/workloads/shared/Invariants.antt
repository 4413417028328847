use Rattle.std.proofs.Common.{◌≡◌, ◌++◌, map, reverse, vec_len}
use Rattle.std.specs.Arc.{arc_value}
use Rattle.lowfare.proofs.workloads.shared.Given as goal

-- with the filings that are left they are all
abbrev pub invariant-loop-filing : goal.invariant-loop-filing
invariant-loop-filing l = map arc_value l.shared ++ reverse l.left.items ≡ l.fn.filings

abbrev pub decreases-loop-filing : goal.decreases-loop-filing
decreases-loop-filing l = vec_len l.left
