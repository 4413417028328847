use Rattle.std.proofs.Common.{ap, subst}
use Rattle.fare_law.specs.Flights.{Ascending}
use Rattle.schedule_book.proofs.Limited.{ascend}
use Rattle.schedule_book.proofs.schedule.Schedule.flights.Goals as goal

pub returns-clause-ascending : goal.returns-clause-ascending
returns-clause-ascending c = subst Ascending (ap (λ x. x.flights) c.self.view_is) (ascend c.self.inside.flights c.self.invariant.0)
