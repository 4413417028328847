use Rattle.std.proofs.Common.{◌∙◌, ap, sym, subst, All}
use Rattle.fare_calendar.specs.Windows.{IsAlike}
use Rattle.fare_calendar.proofs.WindowFacts.{windows_same}
use Rattle.fare_calendar.proofs.sharing.same_windows.Goals as goal

pub returns : goal.returns
returns c told =
    let one = c.first_slice-one.result.now in
    let other = c.first_slice-other.result.now in
    let numbers = c.from_place-numbers.result.now in
    windows_same c.args.book.now c.args.shared.now c.args.request.now c.root-2.inside.at c.schedule_of-schedule.result.now.flights numbers one other c.schedule_of-schedule.ensures c.from_place-numbers.ensures c.first_slice-one.ensures c.first_slice-other.ensures
    (λ at first. ap (λ z. z.at) (c.root-2.view_is ∙ c.root.ensures.root at first)) (subst (λ flights. All (IsAlike flights one other) numbers) c.flights.ensures.flights (c.are_alike.ensures.0 told))
