use Rattle.std.proofs.Common.{int_lt, rules}
use Rattle.std.proofs.lemmas.Fn.{always_returns_same}
use Rattle.fare_law.specs.declared.flights.Flight.{Flight}
use Rattle.schedule_book.proofs.Lower.{parted}
use Rattle.schedule_book.proofs.times.Times.lower.Goals as goal

pub returns-clause-point : goal.returns-clause-point
returns-clause-point c = c.partition_point.ensures.partitioned (λ (f : Flight). int_lt f.dep c.args.at) (always_returns_same _ _ _ (λ a r q k. search rules)) (parted c.args.flights.now c.args.at c.requires)
