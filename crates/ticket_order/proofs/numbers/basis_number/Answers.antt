use Rattle.std.proofs.Common.{arith}
use Rattle.ticket_order.proofs.CharacterPlaces.{place_added, place_bound, place_fits}
use Rattle.ticket_order.proofs.numbers.basis_number.Goals as goal

pub overflow_mul-number : goal.overflow_mul-number
overflow_mul-number c = let h = place_fits c.loop-place.number c.loop-place.place (omega arith) c.loop-place.invariant.1 in omega arith

pub overflow_add-number : goal.overflow_add-number
overflow_add-number c = let h = place_fits c.loop-place.number c.loop-place.place (omega arith) c.loop-place.invariant.1 in omega (arith, c.value_at.ensures.small)

pub loop-place-preserved : goal.loop-place-preserved
loop-place-preserved c = (
  place_added c.loop-place.number c.value_at.result c.loop-place.place c.as_slice-characters.result.now _ (omega arith) c.value_at.ensures.value c.loop-place.invariant.0,
  place_bound c.loop-place.number c.value_at.result c.loop-place.place c.loop-place.invariant.1 c.value_at.ensures.small,
)
