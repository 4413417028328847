use Rattle.std.proofs.Common.{◌≡◌, ◌+◌, ◌*◌, ◌^◌, ◌-◌, ◌≤◌, drop}
use Rattle.fare_law.specs.Codes.{in_places}
use Rattle.ticket_order.proofs.numbers.basis_number.Given as goal

abbrev pub invariant-loop-place : goal.invariant-loop-place
invariant-loop-place l =
    (l.number * 37 ^ (8 - l.place) + in_places (8 - l.place) (drop l.place l.characters) ≡ in_places 8 l.characters) × (l.number + 6 ≤ 6 * 37 ^ l.place)
