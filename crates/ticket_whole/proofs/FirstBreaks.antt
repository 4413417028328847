-- The least component at which a ticket breaks a demand.
use Rattle.std.proofs.Common.{◌≡◌, ◌<◌, ℕ, List, ◌∷◌, ◌++◌, length, refl, inl, arith}
use Rattle.fare_law.specs.declared.requests.Request.{Request}
use Rattle.fare_law.specs.declared.tickets.Component.{Component}
use Rattle.fare_law.specs.declared.tickets.Ticket.{Ticket}
use Rattle.fare_law.specs.Book.{Book}
use Rattle.ticket_whole.specs.declared.demand.Demand.{Demand}
use Rattle.ticket_whole.specs.Breaches.{TicketMeets, StandingMeets, FirstBroken}

module _ (b : Book) (q : Request) (t : Ticket) (demand : Demand) where
  -- each of the first components meets the demand
  abbrev pub FirstMeet : ℕ → Type 0
  FirstMeet i = (before : List Component) (c : Component) (after : List Component) → t.components ≡ before ++ c ∷ after → length before < i → StandingMeets b q t demand before c

  -- no component has a lesser number than the ticket as a whole
  pub broken_whole : (TicketMeets b q t demand → ⊥) → FirstBroken b q t demand 0
  broken_whole h = record { breaks = inl (refl, h); least = λ other k. omega arith }
