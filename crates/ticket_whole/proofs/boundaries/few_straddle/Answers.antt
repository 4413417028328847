use Rattle.std.proofs.Common.{refl, arith}
use Rattle.ticket_whole.proofs.BoundarySplits.{straddle_told}
use Rattle.ticket_whole.proofs.boundaries.few_straddle.Goals as goal

pub returns : goal.returns
returns c = (λ t. straddle_told c.args.labels.now (λ n lt. c.loop-at.invariant n (omega (arith, lt, c.loop-at-test.false))), λ h. refl)
