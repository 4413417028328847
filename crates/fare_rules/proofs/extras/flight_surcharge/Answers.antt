use Rattle.std.proofs.Common.{rules, ◌≡◌, cond}
use Rattle.std.specs.List.{sum_by}
use Rattle.fare_law.specs.Parts.{fits}
use Rattle.fare_rules.proofs.Sums.{flight_low}
use Rattle.fare_rules.proofs.extras.flight_surcharge.Goals as goal

pub returns-clause-low : goal.returns-clause-low
returns-clause-low c =
    let summed : c.sum.result ≡ sum_by (λ s. cond (fits s c.args.flight.now) s.amount 0) c.args.entries.now = search rules in
    rw summed (flight_low c.args.flight.now c.args.entries.now c.requires.low c.requires.few)
