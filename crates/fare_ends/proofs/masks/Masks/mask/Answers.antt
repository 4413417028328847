use Rattle.std.proofs.Common.{ap, slice_get, sym, ◌∙◌}
use Rattle.fare_ends.proofs.masks.Masks.mask.Goals as goal

pub returns-in-Some-clause-mask : goal.returns-in-Some-clause-mask
returns-in-Some-clause-mask c = c.requires.each c.args.number c.in-Some.mask (ap (λ xs. slice_get xs c.args.number) (sym c.as_slice.ensures.value) ∙ c.in-Some.ensures)
