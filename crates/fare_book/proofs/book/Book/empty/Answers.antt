use Rattle.std.proofs.Common.{sym, subst, ◌∙◌}
use Rattle.std.specs.Arc.{arc_value}
use Rattle.fare_law.specs.Book.{Timetable}
use Rattle.fare_book.specs.Seating.{SeatsRows}
use Rattle.fare_book.proofs.Opening.{opening_holds}
use Rattle.fare_book.proofs.book.Book.empty.Goals as goal

pub invariant_of-result : goal.invariant_of-result
invariant_of-result c =
    let built = c.in_ok-build.field-0 in
    let kept : SeatsRows c.args.rows.now built = record { each = c.in_ok-build.ensures.rows; few = c.requires } in
    opening_holds (arc_value c.in_ok-timetable.timetable) c.new-3.result c.new-4.result.entries c.new-5.result.entries c.new-6.result.entries built (arc_value c.in_ok-seats.seats)
    (subst (λ (t : Timetable). SeatsRows t.seats built) (sym (c.in_ok-timetable.ensures.ok ∙ c.of.ensures)) kept) (sym c.in_ok-seats.ensures.ok) c.new-3.ensures c.new-4.ensures.empty c.new-5.ensures.empty c.new-6.ensures.empty
