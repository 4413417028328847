use Rattle.std.proofs.Common.{refl}
use Rattle.cheap_moves.proofs.Joining.{not_added}
use Rattle.law_lemmas.proofs.Members.{read_in}
use Rattle.law_lemmas.proofs.Tests.{not_so}
use Rattle.cheap_moves.proofs.prospects.is_among.Goals as goal

pub returns-then-is : goal.returns-then-is
returns-then-is c = (λ t. read_in c.args.prospects.now c.loop-other.other-index _ c.args.prospect c.loop-other-test.true (c.is.ensures.0 c.if-is.true), λ i. refl)

pub loop-other-preserved : goal.loop-other-preserved
loop-other-preserved c = not_added c.args.prospects.now c.loop-other.other-index _ c.args.prospect c.loop-other-test.true c.loop-other.invariant (not_so c.is.result c.if-is.false c.is.ensures.1)
