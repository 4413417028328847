use Rattle.search_core.specs.Answers.{IsPriced}
use Rattle.certificate.specs.AnswerCheck.{run_of}
use Rattle.residual_keys.specs.Searches.{IsDrawn}
use Rattle.search_core.proofs.RunTickets.{each_at, matched_next}
use Rattle.search_core.proofs.ticketing.tickets_of.Goals as goal

pub priced-requires-clause-drawn : goal.priced-requires-clause-drawn
priced-requires-clause-drawn c = each_at (λ run. IsDrawn c.args.book.now c.args.request.now (run_of run)) c.args.runs.now c.loop-run.run-index c.run-item.result c.loop-run-test.true c.run-item.is c.requires.drawn

pub loop-run-preserved : goal.loop-run-preserved
loop-run-preserved c =
    matched_next (IsPriced c.args.book.now c.args.request.now) c.args.runs.now c.loop-run.run-index c.run-item.result c.loop-run.tickets c.push.new.self c.priced.result c.loop-run-test.true c.run-item.is c.loop-run.invariant c.priced.ensures c.in_ok-push.ensures.items
