use Rattle.std.proofs.Common.{arith}
use Rattle.lane_mask.proofs.MaskLemmas.{compared_fits, compared_tells}
use Rattle.lane_mask.proofs.seats.at_least.Goals as goal

pub overflow_cast-result : goal.overflow_cast-result
overflow_cast-result c = record { fits = compared_fits 32 c.args.seats.now c.args.party (omega (arith, c.told-seats)) (omega arith) }

pub returns : goal.returns
returns c = λ i l. compared_tells 32 c.args.seats.now c.args.party i (omega (arith, c.told-seats)) (omega arith) l
