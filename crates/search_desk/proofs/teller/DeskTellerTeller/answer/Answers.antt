use Rattle.std.proofs.Common.{◌≡◌, length, IfOk, subst}
use Rattle.search_desk.specs.Outcomes.{AnswersAsk}
use Rattle.search_desk.specs.Tellers.{TellerView}
use Rattle.fare_law.specs.Lists.{IsPrefix}
use Rattle.serve_desks.specs.Terms.{IsRight}
use Rattle.search_desk.proofs.Asking.{answered}
use Rattle.search_desk.proofs.teller.DeskTellerTeller.answer.Goals as goal

pub returns-clause-answer : goal.returns-clause-answer
returns-clause-answer g c =
    let before = c.self.inside.desk.sight in
    let after = c.reply_by-reply.new.desk.sight.book in
    let told = answered c.reply_by-reply.result before.told c.self.inside.asks.now c.args.request c.ask_of-ask.result.now before.book after c.ask_of-ask.ensures c.reply_by-reply.ensures.seen.timetable c.reply_by-reply.ensures.learnt c.reply_by-reply.ensures.number c.reply_by-reply.ensures.outcome in
    subst
    (λ (v : TellerView). IfOk c.reply_by-reply.result (λ x. (x.number ≡ length after.entries) × IsPrefix v.sight.told after.entries × IsRight AnswersAsk (record { asks = v.asks; timetable = v.sight.book.timetable }) c.args.request after.entries x.body))
    c.self.view_is told
