-- The certificate of a search is the same by best tickets and by least runs.
use Rattle.std.proofs.Common.{List, ◌≡◌, ◌≤◌, map, sym, ◌∙◌, subst}
use Rattle.certificate.specs.declared.parts.CertAnswer.{CertAnswer}
use Rattle.certificate.specs.declared.parts.Certificate.{Certificate}
use Rattle.certificate.specs.AnswerCheck.{AnswerIs, run_of}
use Rattle.certificate.specs.CertOf.{CertOf, CertOfRuns, SameByRuns}
use Rattle.residual_keys.proofs.NothingLost.{run_ticket, ticket_run}
use Rattle.residual_keys.proofs.OneTicket.{ticket_one}
use Rattle.residual_keys.proofs.RunsBest.{best_tickets}
use Rattle.certificate.proofs.ListFacts.{map_in, matched_map, matched_right, pairs_map}
use Rattle.certificate.proofs.MeetsChecks.{answers_ascend, answers_few, comes_after}
use Rattle.certificate.proofs.Tickets.{costs_one}
use Rattle.fare_law.specs.declared.requests.Request.{Request}
use Rattle.fare_law.specs.declared.tickets.Ticket.{Ticket}
use Rattle.fare_law.specs.Book.{Book}
use Rattle.fare_law.specs.Lists.{IsIn, Matched}
use Rattle.fare_law.specs.Best.{Best, Costs}
use Rattle.fare_law.specs.Flights.{Ascending}
use Rattle.residual_keys.specs.Residuals.{RunFromRoot}
use Rattle.residual_keys.specs.Searches.{BestRuns, Drawn, DrawnBefore, IsDrawn, TicketOf}
use Rattle.law_lemmas.proofs.EachOne.{each_from, each_map}
use Rattle.law_lemmas.proofs.Lists.{map_length}

module _ (b : Book) (q : Request) (asc : Ascending b.timetable.flights) (c : Certificate) (of : CertOf b q c) where
  is_drawn : (a : CertAnswer) → IsIn a c.answers → IsDrawn b q (run_of a)
  is_drawn a i =
      let t = matched_right (AnswerIs b q) c.answers of.tickets of.answers a i in
      let run = ticket_run b q t.0 t.2.0 in
      subst (λ z. RunFromRoot b q a.moves z) (costs_one b q t.0 run.0 a.price run.2 t.2.2) (subst (λ z. RunFromRoot b q z run.0) t.2.1 run.1)

  -- an answer with the moves of a run is that run
  same_run : (d : Drawn) → IsDrawn b q d → (a : CertAnswer) → IsIn a c.answers → a.moves ≡ d.moves → IsIn d (map run_of c.answers)
  same_run d run a i moves =
      let t = matched_right (AnswerIs b q) c.answers of.tickets of.answers a i in
      let u = run_ticket b q asc d.moves d.price run in
      let same = ticket_one b q u.0 t.0 u.1 t.2.0 (u.2 ∙ sym moves ∙ sym t.2.1) in
      let price = costs_one b q t.0 a.price d.price t.2.2 (subst (λ z. Costs z b q d.price) same u.3) in
      let e : run_of a ≡ d = λ i. record { price = price i; moves = moves i } in
      subst (λ z. IsIn z (map run_of c.answers)) e (map_in run_of c.answers a i)

  best_runs : BestRuns b q q.best (map run_of c.answers)
  best_runs = record {
    ascending = pairs_map run_of DrawnBefore c.answers (answers_ascend b q c of);
    each = each_map run_of (IsDrawn b q) c.answers (each_from (λ a. IsDrawn b q (run_of a)) c.answers is_drawn);
    few = subst (λ n. n ≤ q.best) (sym (map_length run_of c.answers)) (answers_few b q c of);
    rest = λ d run out.
        let k = comes_after b q c of asc d.moves d.price run (λ a i e. out (same_run d run a i e)) in
        (each_map run_of (λ y. DrawnBefore y d) c.answers k.0, map_length run_of c.answers ∙ k.1);
  }

pub from_runs : (b : Book) (q : Request) → ((ds : List Drawn) → BestRuns b q q.best ds → (ts : List Ticket) × Matched (TicketOf b q) ds ts × Best b q ts) → (c : Certificate) → CertOfRuns b q c → CertOf b q c
from_runs b q tickets c of =
    let t = tickets (map run_of c.answers) of.runs in
    record { of = of.of; tickets = t.0; best = t.2; answers = matched_map run_of (TicketOf b q) c.answers t.0 t.1; rows = of.rows }

pub same_by_runs : (c : Certificate) (b : Book) (q : Request) → SameByRuns c b q
same_by_runs c b q asc = (
  λ of. record { of = of.of; runs = best_runs b q asc c of; rows = of.rows },
  from_runs b q (best_tickets b q asc) c,
)
