use Rattle.std.proofs.Common.{◌∙◌, ◌≤◌, ap, subst}
use Rattle.fare_law.specs.Book.{Timetable}
use Rattle.fare_law.specs.Flights.{Ascending}
use Rattle.fare_law.specs.declared.limits.TheConstants.{MOST_ENTRIES}
use Rattle.shop_book.proofs.limits.tell_kept.Goals as goal

pub returns : goal.returns
returns c =
    let flights = ap (λ x. x.flights) c.schedule.ensures ∙ ap (λ (x : Timetable). x.flights) (c.deref.ensures ∙ c.timetable.ensures) in
    record { limits = c.book_limits.ensures; ascending = subst Ascending flights c.flights.ensures.ascending; few = subst (λ n. n ≤ MOST_ENTRIES) c.number.ensures.value c.number.ensures.few }
