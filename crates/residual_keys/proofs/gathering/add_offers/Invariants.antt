use Rattle.std.proofs.Common.{take}
use Rattle.residual_keys.specs.Gathered.{Adds}
use Rattle.residual_keys.proofs.Offered.{Upto}
use Rattle.residual_keys.proofs.gathering.add_offers.Given as goal

abbrev pub invariant-loop-offer : goal.invariant-loop-offer
invariant-loop-offer l = Adds (Upto l.book l.request l.residual l.way.path.flights l.reverse l.sheet.rows (take l.offer-index l.offered)) l.initial.found l.found
