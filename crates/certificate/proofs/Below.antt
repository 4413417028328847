-- Theorems of the crates below, with the laws of words that they ask for.
use Rattle.std.specs.Prelude.{◌≡◌, List}
use Rattle.fare_law.specs.declared.requests.Request.{Request}
use Rattle.fare_law.specs.declared.tickets.Ticket.{Ticket}
use Rattle.fare_law.specs.Book.{Book}
use Rattle.fare_law.specs.Best.{Best, Cheaper}
use Rattle.fare_law.specs.Limits.{HasKeys}
use Rattle.residual_keys.proofs.OneBest.{best_tickets_one, cheaper_never}
use Rattle.ticket_order.proofs.Codes.{codes_same}
use Rattle.ticket_order.proofs.Words.{before_never, before_total, before_trans}

pub never_cheaper : (b : Book) (q : Request) (t : Ticket) → Cheaper b q t t → ⊥
never_cheaper = cheaper_never before_never

pub one_best : (b : Book) (q : Request) → HasKeys b → (ts us : List Ticket) → Best b q ts → Best b q us → ts ≡ us
one_best b q keys = best_tickets_one before_total codes_same b q keys before_never before_trans
