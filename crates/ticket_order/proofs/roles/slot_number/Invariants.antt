use Rattle.std.proofs.Common.{◌≡◌, ◌-◌, ◌≤◌, ◌&&◌, count_by}
use Rattle.fare_law.specs.Lawful.{comes_in}
use Rattle.fare_law.specs.Moves.{upto}
use Rattle.ticket_order.proofs.roles.slot_number.Given as goal

abbrev pub invariant-loop-smaller : goal.invariant-loop-smaller
invariant-loop-smaller l = (l.slot ≡ count_by (λ u. comes_in u l.before && comes_in u l.after) (upto (l.smaller - 1))) × (l.slot ≤ l.smaller - 1) × (l.smaller - 1 ≤ l.unit - 1)
