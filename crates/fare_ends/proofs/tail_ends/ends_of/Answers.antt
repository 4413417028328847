use Rattle.std.proofs.Common.{subst, sym, take}
use Rattle.fare_ends.specs.Tails.{AreEnds}
use Rattle.law_lemmas.proofs.Lists.{front_read}
use Rattle.fare_ends.proofs.tail_ends.ends_of.Goals as goal

pub loop-tail-preserved : goal.loop-tail-preserved
loop-tail-preserved c =
    let tails = c.args.tails.now in
    let at = c.loop-tail.tail-index in
    subst (λ ts. AreEnds c.args.book.now ts c.add.new.self) (sym (front_read tails at _ c.tail-item.result c.loop-tail-test.true c.tail-item.is)) (c.in_ok-add.ensures (take at tails) c.loop-tail.invariant)
