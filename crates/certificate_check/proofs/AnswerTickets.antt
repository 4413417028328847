-- The ticket that is made of an answer's moves is the answer's, where it is lawful and costs the answer's price.
use Rattle.std.proofs.Common.{◌≡◌, ◌↔◌, ◌∙◌, ℕ, Bool, eqb, IsTrue, List, Option, Some, None, sym, ap, subst}
use Rattle.std.specs.Option.{option_eq}
use Rattle.std.proofs.lemmas.Bool.Decides.{Decides-eqb}
use Rattle.certificate.specs.AnswerCheck.{AnswerIs}
use Rattle.certificate.specs.declared.parts.CertAnswer.{CertAnswer}
use Rattle.fare_law.specs.declared.flights.Flight.{Flight}
use Rattle.fare_law.specs.declared.moves.Move.{Move}
use Rattle.fare_law.specs.declared.requests.Request.{Request}
use Rattle.fare_law.specs.declared.tickets.Ticket.{Ticket}
use Rattle.fare_law.specs.Best.{Costs}
use Rattle.fare_law.specs.Book.{Book}
use Rattle.fare_law.specs.Lawful.{Lawful}
use Rattle.fare_law.specs.Moves.{moves_of}
use Rattle.residual_keys.specs.NothingLost.{TicketsAreRuns}
use Rattle.ticket_order.specs.Tickets.{TicketOfMoves}

some_same : (price : Option ℕ) (m n : ℕ) → price ≡ Some m → price ≡ Some n → m ≡ n
some_same price m n h k = cc

same_number : (m n : ℕ) → Some m ≡ Some n → m ≡ n
same_number m n e = cc

-- the test of a price tells
pub price_told : (o : Option ℕ) (n : ℕ) (result : Bool) → result ≡ option_eq eqb o (Some n) → IsTrue result ↔ (o ≡ Some n)
price_told None n result e = (λ t. absurd (cc), λ h. absurd (cc))
price_told (Some m) n result e = let d = Decides-eqb m n in (λ t. ap (λ z. Some z) (d.0 (sym e ∙ t)), λ h. e ∙ d.1 (same_number m n h))

module _ (b : Book) (q : Request) (a : CertAnswer) (flights : List Flight) where
  pub is_answer : TicketsAreRuns b q → (t : Ticket) (price : Option ℕ) → ((request : Request) (n : ℕ) → Costs t b request n → price ≡ Some n) → TicketOfMoves flights a.moves t → Lawful t b q → price ≡ Some a.price
      → (u : Ticket) × AnswerIs b q a u
  is_answer runs t price costs made law e = let r = runs t law in (t, (law, made.moves_are, subst (Costs t b q) (some_same price r.0 a.price (costs q r.0 r.2) e) r.2))

  pub is_made : ((t : Ticket) → Lawful t b q → TicketOfMoves flights (moves_of t) t) → (u : Ticket) → AnswerIs b q a u → TicketOfMoves flights a.moves u
  is_made made u h = subst (λ ms. TicketOfMoves flights ms u) h.1 (made u h.0)

  same_ticket : ((t : Ticket) → Lawful t b q → TicketOfMoves flights (moves_of t) t) → (ms : List Move) → ms ≡ a.moves → (t : Ticket) → ((u : Ticket) → TicketOfMoves flights ms u → u ≡ t) → (u : Ticket) → AnswerIs b q a u → u ≡ t
  same_ticket made ms e t only u h = only u (subst (λ z. TicketOfMoves flights z u) (sym e) (is_made made u h))

  -- the ticket that is made is lawful
  pub lawful_told : TicketsAreRuns b q → ((t : Ticket) → Lawful t b q → TicketOfMoves flights (moves_of t) t) → (ms : List Move) → ms ≡ a.moves → (t : Ticket) → TicketOfMoves flights ms t → ((u : Ticket) → TicketOfMoves flights ms u → u ≡ t)
      → (price : Option ℕ) → ((request : Request) (n : ℕ) → Costs t b request n → price ≡ Some n) → Lawful t b q → (result : Bool) → IsTrue result ↔ (price ≡ Some a.price) → IsTrue result ↔ ((u : Ticket) × AnswerIs b q a u)
  lawful_told runs made ms e t is only price costs law result told = (
    λ h. is_answer runs t price costs (subst (λ z. TicketOfMoves flights z t) e is) law (told.0 h),
    λ h. told.1 (costs q a.price (subst (λ z. Costs z b q a.price) (same_ticket made ms e t only h.0 h.1) h.1.2)),
  )

  -- the ticket that is made isn't lawful
  pub unlawful_told : ((t : Ticket) → Lawful t b q → TicketOfMoves flights (moves_of t) t) → (ms : List Move) → ms ≡ a.moves → (t : Ticket) → ((u : Ticket) → TicketOfMoves flights ms u → u ≡ t) → (Lawful t b q → ⊥) → ((u : Ticket) × AnswerIs b q a u) → ⊥
  unlawful_told made ms e t only never h = never (subst (λ z. Lawful z b q) (same_ticket made ms e t only h.0 h.1) h.1.0)
