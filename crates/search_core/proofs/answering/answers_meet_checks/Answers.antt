use Rattle.std.proofs.Common.{subst, arith}
use Rattle.fare_law.specs.Flights.{Ascending}
use Rattle.search_core.proofs.RunTickets.{first_slice}
use Rattle.search_core.proofs.answering.answers_meet_checks.Goals as goal

pub returns : goal.returns
returns c = λ a is.
    let b = c.args.book.now in
    let q = c.args.request.now in
    let first = first_slice q (let n = c.requires.count in omega (arith, n)) in
    c.search_meets_checks.ensures.checks a.certificate b q (subst Ascending c.schedule_of.ensures.flights c.flights.ensures.ascending) c.limits.ensures.keys c.requires.best.0 first.0 first.1 is.certificate
