use Rattle.std.proofs.Common.{length, subst, sym}
use Rattle.seat_classes.specs.Held.{Counts}
use Rattle.seat_classes.proofs.HeldLemmas.{counts_all}
use Rattle.seat_classes.proofs.seats.Seats.count.Goals as goal

pub returns : goal.returns
returns c =
    let held = c.self.inside.rows.entries in
    subst (λ n. Counts c.args.self.now n) (sym c.len.ensures.len) (subst (λ h. Counts h (length held)) c.self.view_is (counts_all held c.len.ensures.ordered))
