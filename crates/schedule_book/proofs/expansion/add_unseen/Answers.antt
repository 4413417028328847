use Rattle.std.proofs.Common.{◌≡◌, rules, pos, ◌++◌, ◌∷◌, [], ◌+ℤ◌, w32, to_z, of_z, true, false, refl, sym, ap, subst, ◌∙◌, inr, arith}
use Rattle.std.specs.Bool.{MatchBool, OnTrue}
use Rattle.fare_law.specs.Flights.{Dated}
use Rattle.schedule_book.specs.Days.{names}
use Rattle.schedule_book.specs.Expansions.{AllDiffer, IsAmong, SeenAt, StillSeen, number_of}
use Rattle.schedule_book.proofs.Numbers.{same}
use Rattle.schedule_book.proofs.RowDays.{plain}
use Rattle.schedule_book.proofs.RowFlights.{SoFar, far_first, far_named, far_unnamed, far_next, far_end, far_repeated, named_dated}
use Rattle.schedule_book.proofs.expansion.add_unseen.Goals as goal
use Rattle.schedule_book.proofs.expansion.add_unseen.Goals.{then-names+in_ok-add_flight+else-not-branch, else-names}

pub loop-offset-init : goal.loop-offset-init
loop-offset-init c = (far_first c.args.row.now c.args.flights.now.items, c.requires.differ, λ q h. h)

pub add_flight-requires-clause-seen : goal.add_flight-requires-clause-seen
add_flight-requires-clause-seen c =
    let row = c.args.row.now in
    let day = row.first +ℤ pos c.loop-offset.offset in
    let raw_is : to_z w32 (of_z w32 c.day_after-day.result) ≡ row.first +ℤ pos c.loop-offset.offset = plain c.day_after-day.result (search rules) ∙ c.day_after-day.ensures ∙ ap (λ d. d +ℤ pos c.loop-offset.offset) (plain row.first (search rules)) in
    let f = c.flight_on-flight.result in
    let dated : Dated row f = c.flight_on-flight.ensures.flight (sym c.names.ensures ∙ c.if-names.true) in
    c.loop-offset.invariant.2 (number_of f) (c.requires.seen (number_of f) (named_dated row f dated))

pub returns-then-not-branch-clause-fault : goal.returns-then-not-branch-clause-fault
returns-then-not-branch-clause-fault c =
    let row = c.args.row.now in
    let day = row.first +ℤ pos c.loop-offset.offset in
    let raw_is : to_z w32 (of_z w32 c.day_after-day.result) ≡ row.first +ℤ pos c.loop-offset.offset = plain c.day_after-day.result (search rules) ∙ c.day_after-day.ensures ∙ ap (λ d. d +ℤ pos c.loop-offset.offset) (plain row.first (search rules)) in
    let named : names row day ≡ true = subst (λ d. names row d ≡ true) raw_is (sym c.names.ensures ∙ c.if-names.true) in
    let f = c.flight_on-flight.result in
    let dated : Dated row f = c.flight_on-flight.ensures.flight (sym c.names.ensures ∙ c.if-names.true) in
    let among : IsAmong f c.loop-offset.flights.items = subst (λ b. MatchBool b (c.add_flight.new.flights.items ≡ c.loop-offset.flights.items ++ f ∷ []) (IsAmong f c.loop-offset.flights.items)) c.if-not-branch.true c.in_ok-add_flight.ensures.added in
    inr (refl, (f, dated, far_repeated row day c.args.flights.now.items c.loop-offset.flights.items f c.loop-offset.invariant.0 (c.flight_on-flight.ensures.day ∙ raw_is) among))

pub loop-offset-preserved : goal.loop-offset-preserved
loop-offset-preserved c =
    let row = c.args.row.now in
    let day = row.first +ℤ pos c.loop-offset.offset in
    let raw_is : to_z w32 (of_z w32 c.day_after-day.result) ≡ row.first +ℤ pos c.loop-offset.offset = plain c.day_after-day.result (search rules) ∙ c.day_after-day.ensures ∙ ap (λ d. d +ℤ pos c.loop-offset.offset) (plain row.first (search rules)) in
    let old = c.args.flights.now.items in
    let before = c.loop-offset.flights.items in
    elim c.if-names.branch [
      | then-names+in_ok-add_flight+else-not-branch w ↦
          let named : names row day ≡ true = subst (λ d. names row d ≡ true) raw_is (sym c.names.ensures ∙ w.if-names.true) in
          let f = w.flight_on-flight.result in
          let dated : Dated row f = w.flight_on-flight.ensures.flight (sym c.names.ensures ∙ w.if-names.true) in
          let pushed : w.add_flight.new.flights.items ≡ before ++ f ∷ [] = subst (λ b. MatchBool b (w.add_flight.new.flights.items ≡ before ++ f ∷ []) (IsAmong f before)) w.if-not-branch.false w.in_ok-add_flight.ensures.added in
          let items : c.if-names.flights.items ≡ w.add_flight.new.flights.items = ap (λ v. v.items) w.flights-is in
          let differ = subst (λ b. OnTrue b (AllDiffer same w.add_flight.new.flights.items)) w.if-not-branch.false w.in_ok-add_flight.ensures.differ in
          let kept = subst (λ b. OnTrue b (StillSeen same before c.loop-offset.seen w.add_flight.new.flights.items w.add_flight.new.seen)) w.if-not-branch.false w.in_ok-add_flight.ensures.seen in (
            far_next row c.loop-offset.offset old c.if-names.flights.items
                (far_named row day old before c.if-names.flights.items f c.loop-offset.invariant.0 named dated (w.flight_on-flight.ensures.day ∙ raw_is) (items ∙ pushed)),
            subst (AllDiffer same) (sym items) differ,
            λ q h. subst (λ fs. SeenAt same fs c.if-names.seen q) (sym items) (subst (λ s. SeenAt same w.add_flight.new.flights.items s q) (sym w.seen-is) (kept q (c.loop-offset.invariant.2 q h))),
          )
      | else-names w ↦
          let unnamed : names row day ≡ false = subst (λ d. names row d ≡ false) raw_is (sym c.names.ensures ∙ w.if-names.false) in
          let items : c.if-names.flights.items ≡ before = ap (λ v. v.items) w.flights-is in (
            far_next row c.loop-offset.offset old c.if-names.flights.items (subst (SoFar row (day +ℤ pos 1) old) (sym items) (far_unnamed row day old before c.loop-offset.invariant.0 unnamed)),
            subst (AllDiffer same) (sym items) c.loop-offset.invariant.1,
            λ q h. subst (λ fs. SeenAt same fs c.if-names.seen q) (sym items) (subst (λ s. SeenAt same before s q) (sym w.seen-is) (c.loop-offset.invariant.2 q h)),
          )
    ]

pub returns-clause-added : goal.returns-clause-added
returns-clause-added c =
    far_end c.args.row.now c.loop-offset.offset c.day_count-offset-end.result c.args.flights.now.items c.loop-offset.flights.items c.requires.first c.requires.last c.day_count-offset-end.ensures.count
    (omega (arith, c.loop-offset.auto.offset-end)) c.loop-offset.invariant.0
