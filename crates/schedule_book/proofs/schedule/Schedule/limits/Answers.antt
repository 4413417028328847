use Rattle.std.proofs.Common.{ap, subst}
use Rattle.fare_law.specs.Limits.{IsPlaceRow}
use Rattle.fare_law.specs.Lists.{Each}
use Rattle.schedule_book.proofs.PlaceRows.{known_formed}
use Rattle.schedule_book.proofs.schedule.Schedule.limits.Goals as goal

pub returns-clause-known : goal.returns-clause-known
returns-clause-known c = known_formed _ (subst (Each IsPlaceRow) (ap (λ x. x.places) c.self.view_is) c.self.invariant.5)
