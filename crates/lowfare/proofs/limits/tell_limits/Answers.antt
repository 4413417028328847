use Rattle.std.proofs.Common.{ap, subst, ◌∙◌}
use Rattle.fare_law.specs.Limits.{IsPlaceRow}
use Rattle.fare_law.specs.Lists.{Each}
use Rattle.fare_law.specs.Requests.{known_places}
use Rattle.fare_law.specs.Book.{Timetable}
use Rattle.lowfare.proofs.Telling.{places_formed}
use Rattle.lowfare.proofs.limits.tell_limits.Goals as goal

pub returns : goal.returns
returns c =
    let b = c.args.book.now in
    let timetable = c.deref.ensures ∙ c.timetable.ensures in
    let rows = ap (λ x. x.places) c.schedule.ensures ∙ ap (λ (x : Timetable). x.places) timetable in
    c.requests_are_judged.ensures.known (known_places b) c.args.request.now (places_formed b.timetable.places (subst (Each IsPlaceRow) rows c.limits.ensures.places)) c.requires
