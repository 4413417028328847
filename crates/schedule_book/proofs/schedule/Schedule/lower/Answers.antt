use Rattle.std.proofs.Common.{◌≡◌, ℤ, w64, int_lt, count_by, ap, subst, ◌∙◌, arith, length}
use Rattle.std.proofs.lemmas.Int.{to_z-of_z}
use Rattle.fare_law.specs.declared.flights.Flight.{Flight}
use Rattle.schedule_book.proofs.Lower.{count_point}
use Rattle.schedule_book.proofs.schedule.Schedule.lower.Goals as goal

pub overflow_cast-result : goal.overflow_cast-result
overflow_cast-result c = let m = c.lower.ensures.bound in let few = c.self.invariant.1 in omega (arith, ap length c.as_slice.ensures)

pub returns : goal.returns
returns c =
    let fs = c.as_slice.result.now in
    let r = c.lower.result in
    let point = c.lower.ensures.point in
    let counted = count_point _ fs r c.lower.ensures.bound point.0 point.1 in
    subst (λ (at : ℤ). r ≡ count_by (λ (f : Flight). int_lt f.dep at) fs) (to_z-of_z w64 c.args.at c.ranges.at) counted ∙ ap (count_by (λ (f : Flight). int_lt f.dep c.args.at)) (c.as_slice.ensures ∙ ap (λ x. x.flights) c.self.view_is)
