use Rattle.std.proofs.Common.{suc, take, drop}
use Rattle.certificate_check.proofs.FromFront.{split_at}
use Rattle.certificate_check.proofs.fronts.first_departing.Goals as goal

pub returns-then-not-is_taken : goal.returns-then-not-is_taken
returns-then-not-is_taken c =
    let i = c.loop-departing.departing-index in
    let m = c.departing-item.result in record {
      before = take i c.args.moves.now;
      after = drop (suc i) c.args.moves.now;
      whole = split_at c.args.moves.now i m c.loop-departing-test.true c.departing-item.is;
      taken = c.loop-departing.invariant;
      untaken = λ h. let t = c.is_taken.ensures.1 h in cc;
    }
