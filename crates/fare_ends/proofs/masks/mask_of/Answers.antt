use Rattle.std.proofs.Common.{◌↔◌, ◌≤◌, subst, IsBitSet}
use Rattle.fare_ends.proofs.masks.mask_of.Goals as goal

pub returns : goal.returns
returns c = record {
  fits = c.mask.type_inv;
  classes = λ class lt. subst (λ n. IsBitSet c.mask.result class ↔ (c.args.request.now.party ≤ n)) (c.seats.ensures.flights c.args.flight.now class) (c.mask.ensures class lt);
}
