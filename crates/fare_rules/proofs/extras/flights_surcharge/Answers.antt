use Rattle.std.proofs.Common.{rules, ◌≡◌, cond}
use Rattle.std.specs.List.{sum_by}
use Rattle.fare_law.specs.Parts.{fits}
use Rattle.fare_rules.proofs.Sums.{flights_low}
use Rattle.fare_rules.proofs.extras.flights_surcharge.Goals as goal

pub returns-clause-low : goal.returns-clause-low
returns-clause-low c =
    let summed : c.sum.result ≡ sum_by (λ f. sum_by (λ s. cond (fits s f) s.amount 0) c.args.entries.now) c.args.flights.now = search rules in
    rw summed (flights_low c.args.entries.now c.args.flights.now c.requires.low c.requires.few_entries c.requires.few)
