-- The answers' tickets: their prices and codes are the answers', and so is their order.
use Rattle.std.proofs.Common.{◌≡◌, ℕ, sym, ap, subst, inl}
use Rattle.certificate.specs.declared.parts.CertAnswer.{CertAnswer}
use Rattle.certificate.specs.AnswerCheck.{AnswerIs, AnswerBelow}
use Rattle.certificate.proofs.Below.{never_cheaper}
use Rattle.certificate.proofs.OneFirst.{neither_less}
use Rattle.fare_law.specs.declared.requests.Request.{Request}
use Rattle.fare_law.specs.declared.tickets.Ticket.{Ticket}
use Rattle.fare_law.specs.Book.{Book}
use Rattle.fare_law.specs.Codes.{run_code, code}
use Rattle.fare_law.specs.Best.{Before, Cheaper, Costs}

module _ (b : Book) (q : Request) where
  -- a ticket costs one price
  pub costs_one : (t : Ticket) (m n : ℕ) → Costs t b q m → Costs t b q n → m ≡ n
  costs_one t m n h k = neither_less m n (λ l. never_cheaper b q t (m, n, h, k, inl l)) (λ l. never_cheaper b q t (n, m, k, h, inl l))

  pub answer_code : (a : CertAnswer) (t : Ticket) → AnswerIs b q a t → code t ≡ run_code a.moves
  answer_code a t h = ap run_code h.1

  pub cheaper : (a c : CertAnswer) (t u : Ticket) → AnswerIs b q a t → AnswerIs b q c u → AnswerBelow a c → Cheaper b q t u
  cheaper a c t u h k w =
      (a.price, c.price, h.2, k.2, subst (λ z. Before a.price z c.price (code u)) (sym (answer_code a t h)) (subst (λ z. Before a.price (run_code a.moves) c.price z) (sym (answer_code c u k)) w))

  pub below : (a c : CertAnswer) (t u : Ticket) → AnswerIs b q a t → AnswerIs b q c u → Cheaper b q t u → AnswerBelow a c
  below a c t u h k (m, n, x, y, w) =
      subst (λ z. Before z (run_code a.moves) c.price (run_code c.moves)) (costs_one t m a.price x h.2)
      (subst (λ z. Before m (run_code a.moves) z (run_code c.moves)) (costs_one u n c.price y k.2)
      (subst (λ z. Before m z n (run_code c.moves)) (answer_code a t h) (subst (λ z. Before m (code t) n z) (answer_code c u k) w)))
