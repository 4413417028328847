use Rattle.std.proofs.Common.{◌≡◌, rules, pos, ◌++◌, ◌∷◌, [], ◌+ℤ◌, w32, to_z, of_z, true, false, sym, ap, subst, ◌∙◌, arith}
use Rattle.std.proofs.lemmas.Int.{ints}
use Rattle.fare_law.specs.Flights.{Dated}
use Rattle.schedule_book.specs.Days.{names}
use Rattle.schedule_book.specs.Expansions.{AllDiffer}
use Rattle.schedule_book.proofs.Numbers.{same, flights_push, none_told}
use Rattle.schedule_book.proofs.RowDays.{plain}
use Rattle.schedule_book.proofs.RowFlights.{SoFar, far_first, far_named, far_unnamed, far_next, far_end, far_new}
use Rattle.schedule_book.proofs.expansion.add_apart.Goals as goal
use Rattle.schedule_book.proofs.expansion.add_apart.Goals.{then-names+in_ok-push, else-names}

pub loop-offset-init : goal.loop-offset-init
loop-offset-init c = (far_first c.args.row.now c.args.flights.now.items, c.requires.differ)

pub day_after-day-requires : goal.day_after-day-requires
day_after-day-requires c =
    let fits = plain c.args.row.now.first (search rules) in
    let high = c.day_count-offset-end.ensures.within in
    let lt = c.loop-offset-test.true in
    omega (arith, ints, fits, high, lt)

pub loop-offset-preserved : goal.loop-offset-preserved
loop-offset-preserved c =
    let row = c.args.row.now in
    let day = row.first +ℤ pos c.loop-offset.offset in
    let raw_is : to_z w32 (of_z w32 c.day_after-day.result) ≡ row.first +ℤ pos c.loop-offset.offset = plain c.day_after-day.result (search rules) ∙ c.day_after-day.ensures ∙ ap (λ d. d +ℤ pos c.loop-offset.offset) (plain row.first (search rules)) in
    let old = c.args.flights.now.items in
    let before = c.loop-offset.flights.items in
    elim c.if-names.branch [
      | then-names+in_ok-push w ↦
          let named : names row day ≡ true = subst (λ d. names row d ≡ true) raw_is (sym c.names.ensures ∙ w.if-names.true) in
          let f = w.flight_on-flight.result in
          let dated : Dated row f = w.flight_on-flight.ensures.flight (sym c.names.ensures ∙ w.if-names.true) in
          let day_is : f.day ≡ day = w.flight_on-flight.ensures.day ∙ raw_is in
          let items : c.if-names.flights.items ≡ before ++ f ∷ [] = ap (λ v. v.items) w.flights-is ∙ w.in_ok-push.ensures.items in (
            far_next row c.loop-offset.offset old c.if-names.flights.items (far_named row day old before c.if-names.flights.items f c.loop-offset.invariant.0 named dated day_is items),
            subst (AllDiffer same) (sym items) (flights_push before f c.loop-offset.invariant.1 (none_told before f (far_new row day old before f c.loop-offset.invariant.0 c.requires.apart dated day_is))),
          )
      | else-names w ↦
          let unnamed : names row day ≡ false = subst (λ d. names row d ≡ false) raw_is (sym c.names.ensures ∙ w.if-names.false) in
          let items : c.if-names.flights.items ≡ before = ap (λ v. v.items) w.flights-is in (
            far_next row c.loop-offset.offset old c.if-names.flights.items (subst (SoFar row (day +ℤ pos 1) old) (sym items) (far_unnamed row day old before c.loop-offset.invariant.0 unnamed)),
            subst (AllDiffer same) (sym items) c.loop-offset.invariant.1,
          )
    ]

pub returns-clause-added : goal.returns-clause-added
returns-clause-added c =
    far_end c.args.row.now c.loop-offset.offset c.day_count-offset-end.result c.args.flights.now.items c.loop-offset.flights.items c.requires.first c.requires.last c.day_count-offset-end.ensures.count
    (omega (arith, c.loop-offset.auto.offset-end)) c.loop-offset.invariant.0
