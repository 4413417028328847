use Rattle.std.proofs.Common.{arith}
use Rattle.std.proofs.lemmas.Int.{ints, to_z-of_z}
use Rattle.fare_law.specs.Days.{first_sunday_after}
use Rattle.fare_rules.proofs.DayLemmas.{least_by_sunday}
use Rattle.fare_rules.proofs.demand.least_return.Goals as goal

pub returns-then-stay : goal.returns-then-stay
unfolding first_sunday_after
returns-then-stay c =
    least_by_sunday c.args.stay c.in_ok-stay.stay c.args.first_day _ c.in_ok-stay.was c.if-stay.true
    (grind (arith, ints, to_z-of_z, c.max.ensures.value, c.first_sunday_after.ensures.count))
