use Rattle.std.proofs.Common.{◌+◌, ◌-◌, vec_len}
use Rattle.fare_ends.specs.Masks.{KnowsNoMore}
use Rattle.fare_ends.proofs.masks.lengthen.Given as goal

abbrev pub invariant-loop-known : goal.invariant-loop-known
invariant-loop-known l = KnowsNoMore l.initial.known.items l.known.items

abbrev pub decreases-loop-known : goal.decreases-loop-known
decreases-loop-known l = l.at + 1 - vec_len l.known
