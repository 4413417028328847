use Rattle.std.proofs.Common.{refl, arith}
use Rattle.ticket_whole.proofs.DemandNumbers.{met_unbroken, number_low}
use Rattle.ticket_whole.proofs.WholeTickets.{lawful_meets, meets_lawful}
use Rattle.ticket_whole.proofs.judgement.lawful.Goals as goal

pub returns-in-Some-clause-lawful : goal.returns-in-Some-clause-lawful
returns-in-Some-clause-lawful c = (
  λ t. absurd (cc),
  λ h.
      let b = c.args.book.now in
      let q = c.args.request.now in
      let t = c.args.ticket.now in
      absurd (met_unbroken b q t c.numbered.result c.in-Some.component (lawful_meets t b q h c.numbered.result) c.in-Some.ensures.breaks),
)

pub returns-clause-lawful : goal.returns-clause-lawful
returns-clause-lawful c = (
  λ t. meets_lawful c.args.ticket.now c.args.book.now c.args.request.now (λ d. c.loop-rule.invariant d (omega (arith, number_low d, c.loop-rule-test.false))),
  λ h. refl,
)
