-- What the moves of a search are to the lawful tickets.
use Rattle.std.specs.Prelude.{◌≡◌, ℕ, List, ◌++◌}
use Rattle.fare_law.specs.declared.moves.Move.{Move}
use Rattle.fare_law.specs.declared.requests.Request.{Request}
use Rattle.fare_law.specs.declared.tickets.Ticket.{Ticket}
use Rattle.fare_law.specs.Book.{Book}
use Rattle.fare_law.specs.Lawful.{Lawful}
use Rattle.fare_law.specs.Moves.{moves_of}
use Rattle.fare_law.specs.Best.{Costs}
use Rattle.residual_keys.specs.Residuals.{State, RunFromRoot, RootLeadsTo}

-- A run from the root is the moves of a lawful ticket, which costs what the run does.
abbrev pub RunsAreTickets : Book → Request → Type 0
RunsAreTickets b q = (ms : List Move) (price : ℕ) → RunFromRoot b q ms price → (t : Ticket) × Lawful t b q × (moves_of t ≡ ms) × Costs t b q price

-- The moves of a lawful ticket are a run from the root, which costs what the ticket does.
abbrev pub TicketsAreRuns : Book → Request → Type 0
TicketsAreRuns b q = (t : Ticket) → Lawful t b q → (price : ℕ) × RunFromRoot b q (moves_of t) price × Costs t b q price

-- A list of moves is that of one lawful ticket.
abbrev pub OneTicket : Book → Request → Type 0
OneTicket b q = (t u : Ticket) → Lawful t b q → Lawful u b q → moves_of t ≡ moves_of u → t ≡ u

-- a further list of moves makes these the moves of a lawful ticket
abbrev pub Completed : Book → Request → List Move → Type 0
Completed b q ms = (t : Ticket) × Lawful t b q × (moves_of t ≡ ms)

-- Where two lists of moves lead from the root to one state, a further list completes the one to a lawful ticket exactly where it completes the other.
abbrev pub SameCompletions : Book → Request → Type 0
SameCompletions b q = (ms ms' rest : List Move) (x : State) → RootLeadsTo b q ms x → RootLeadsTo b q ms' x → Completed b q (ms ++ rest) → Completed b q (ms' ++ rest)
