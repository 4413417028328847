use Rattle.std.proofs.Common.{Some, sym, ◌∙◌, ap}
use Rattle.ticket_order.proofs.Ends.{further, ends_next, ends_lost, ends_all, lead_only, lead_all}
use Rattle.ticket_order.proofs.tickets.ends_of.Goals as goal
use Rattle.ticket_order.proofs.tickets.ends_of.Goals.{in-Some, in-None}

pub returns-in_err-flight-clause-only : goal.returns-in_err-flight-clause-only
returns-in_err-flight-clause-only c = λ begin end h.
    c.from_residual.ensures
    ∙ sym (ends_lost c.args.flights.now c.args.numbers.now c.loop-number.number-index c.loop-number.ends _ c.loop-number-test.true (sym c.in_err-flight.ensures) c.loop-number.invariant)
    ∙ lead_only c.args.flights.now c.args.numbers.now begin end h

pub loop-number-preserved : goal.loop-number-preserved
loop-number-preserved c =
    ends_next c.args.flights.now c.args.numbers.now c.loop-number.number-index c.loop-number.ends c.match-ends.ends c.in_ok-flight.flight _ c.loop-number-test.true c.in_ok-flight.ensures
    (elim c.match-ends.branch [
      | in-Some w ↦ w.ends-is ∙ ap (λ e. Some (further e c.in_ok-flight.flight)) (sym w.in-Some.is)
      | in-None w ↦ w.ends-is ∙ ap (λ e. Some (further e c.in_ok-flight.flight)) (sym w.in-None.is)
    ]) c.loop-number.invariant

pub returns-clause-some : goal.returns-clause-some
returns-clause-some c = lead_all c.args.flights.now c.args.numbers.now c.loop-number.ends (ends_all c.args.flights.now c.args.numbers.now c.loop-number.number-index c.loop-number.ends c.loop-number-test.false c.loop-number.invariant)

pub returns-clause-only : goal.returns-clause-only
returns-clause-only c = λ begin end h.
    ends_all c.args.flights.now c.args.numbers.now c.loop-number.number-index c.loop-number.ends c.loop-number-test.false c.loop-number.invariant ∙ lead_only c.args.flights.now c.args.numbers.now begin end h
