-- The answer check: few answers, each a lawful ticket at its price, ascending.
use Rattle.std.specs.Prelude.{ℕ, ◌<◌, List, length}
use Rattle.certificate.specs.declared.parts.CertAnswer.{CertAnswer}
use Rattle.certificate.specs.InOrder.{AllRight, FirstWrong, IfLast}
use Rattle.fare_law.specs.declared.requests.Request.{Request}
use Rattle.fare_law.specs.declared.tickets.Ticket.{Ticket}
use Rattle.fare_law.specs.Book.{Book}
use Rattle.residual_keys.specs.Searches.{Drawn, DrawnBefore, TicketOf}

-- an answer as a run with its price
abbrev pub run_of : CertAnswer → Drawn
run_of a = record { price = a.price; moves = a.moves }

-- The answer is this ticket: lawful, with these moves and this price.
abbrev pub AnswerIs : Book → Request → CertAnswer → Ticket → Type 0
AnswerIs b q a t = TicketOf b q (run_of a) t

-- the one answer is cheaper, or as cheap with a smaller code
abbrev pub AnswerBelow : CertAnswer → CertAnswer → Type 0
AnswerBelow a c = DrawnBefore (run_of a) (run_of c)

-- The answer's place is at most the request's number, there is a lawful ticket with its moves and its price, and it is greater than the answer before.
pub record AnswerRight (b : Book) (q : Request) (before : List CertAnswer) (a : CertAnswer) : Type 0 where
  pub few : length before < q.best
  pub lawful : (t : Ticket) × AnswerIs b q a t
  pub greater : IfLast (λ last. AnswerBelow last a) before

abbrev pub AnswersHold : Book → Request → List CertAnswer → Type 0
AnswersHold b q answers = AllRight (AnswerRight b q) answers

-- The first answer that isn't right.
abbrev pub AnswersFail : Book → Request → List CertAnswer → ℕ → Type 0
AnswersFail b q answers place = FirstWrong (AnswerRight b q) answers place
