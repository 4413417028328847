use Rattle.std.proofs.Common.{◌≡◌, ◌∙◌, ◌++◌, ◌∷◌, [], ℕ, length, refl, sym, ap, arith, Some, Err, Result, length-append}
use Rattle.fare_law.specs.declared.rows.TextLine.{TextLine}
use Rattle.fare_law.specs.declared.tickets.Ticket.{Ticket}
use Rattle.fare_verdict.specs.declared.faults.TicketFault.{TicketFault}
use Rattle.fare_verdict.specs.declared.faults.TicketFault.TheVariants.{Line as BadLine}
use Rattle.fare_verdict.specs.declared.forms.TicketLine.TheVariants.{Flight as FlightLine}
use Rattle.fare_verdict.specs.Lines.{line_in}
use Rattle.fare_verdict.proofs.Spelling.{one_flight, fewer, flight_too_many}
use Rattle.fare_verdict.proofs.tickets.read_flights.Goals as goal

pub returns-then-is_full-clause-ticket : goal.returns-then-is_full-clause-ticket
returns-then-is_full-clause-ticket c front unit fare =
    let said : line_in c.line-item.result.bytes ≡ Some (FlightLine c.in-Some-Flight.name) =
    let one = ap line_in c.as_slice.ensures in let two = c.line_of.ensures in let three = c.in-Some-Flight.is in let four = c.in-Some-Flight.name-is in let five = c.in-Some-Flight.field-0-is in cc in
    flight_too_many c.args.book.now c.args.lines.now c.loop-line.line-index c.line-item.result c.in-Some-Flight.name front unit fare c.loop-line.numbers c.loop-line-test.true
    (ap (λ (x : TextLine). line_in x.bytes) (sym c.line-item.is) ∙ said) (let e = c.if-is_full.ensures.value.0 refl in omega (arith, e)) (c.loop-line.invariant.1 front unit fare)
    ∙ (let fault : TextLine → Result Ticket TicketFault = λ x. Err (BadLine x.line) in ap fault (sym c.line-item.is))

pub loop-line-preserved : goal.loop-line-preserved
loop-line-preserved c =
    let said : line_in c.line-item.result.bytes ≡ Some (FlightLine c.in-Some-Flight.name) =
    let one = ap line_in c.as_slice.ensures in let two = c.line_of.ensures in let three = c.in-Some-Flight.is in let four = c.in-Some-Flight.name-is in let five = c.in-Some-Flight.field-0-is in cc in (
      (let e = c.loop-line.invariant.0 in rw c.push.ensures (rw length-append (omega (arith, e)))),
      λ front unit fare. one_flight c.args.book.now c.args.lines.now c.loop-line.line-index c.line-item.result c.in-Some-Flight.name front unit fare c.loop-line.numbers c.push.new.self c.loop-line-test.true
          (ap (λ (x : TextLine). line_in x.bytes) (sym c.line-item.is) ∙ said) (fewer (length c.loop-line.numbers) c.if-is_full.ensures.fits (λ h. let z = c.if-is_full.ensures.value.1 h in absurd (cc)))
          (c.push.ensures ∙ ap (λ (n : ℕ). c.loop-line.numbers ++ n ∷ []) c.number_of_flight.ensures) (c.loop-line.invariant.1 front unit fare),
    )
