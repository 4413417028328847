use Rattle.std.proofs.Common.{◌+◌, ◌-◌, vec_len}
use Rattle.component_table.proofs.tables.are_joined_together.Given as goal

abbrev pub decreases-loop-together : goal.decreases-loop-together
decreases-loop-together l = l.at.slice + 1 - vec_len l.together
