use Rattle.std.proofs.Common.{sym, subst}
use Rattle.certificate.specs.AnswerCheck.{run_of}
use Rattle.fare_law.specs.Lists.{Each, Matched}
use Rattle.residual_keys.specs.Searches.{IsDrawn}
use Rattle.search_core.proofs.RunTickets.{answer_is, each_drawn}
use Rattle.search_core.specs.Answers.{IsPriced}
use Rattle.search_core.proofs.answering.answer_of.Goals as goal

pub tickets_of-requires-clause-drawn : goal.tickets_of-requires-clause-drawn
tickets_of-requires-clause-drawn c =
    let b = c.args.book.now in
    let q = c.args.request.now in
    subst (Each (λ run. IsDrawn b q (run_of run))) (sym c.as_slice.ensures) (each_drawn b q c.args.runs c.requires.runs.each)

pub returns : goal.returns
returns c =
    let b = c.args.book.now in
    let q = c.args.request.now in
    answer_is b q (c.best_runs.ensures.best b q) _ c.requires.runs (subst (λ runs. Matched (IsPriced b q) runs c.in_ok-tickets.tickets) c.as_slice.ensures c.in_ok-tickets.ensures) c.requires.rows c.number-number.ensures.value c.number-number.ensures.value c.copied.ensures
