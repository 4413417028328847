-- The ticket of a case: read from the lines of its section, or the first line that isn't right.
use Rattle.std.specs.Prelude.{List}
use Rattle.fare_law.specs.declared.rows.TextLine.{TextLine}
use Rattle.fare_law.specs.declared.tickets.Ticket.{Ticket}
use Rattle.fare_law.specs.Book.{Book}
use Rattle.fare_verdict.specs.Tickets.{ticket_of_lines}
use Rattle.whole_case.specs.Refusals.{of_ticket}
use Rattle.whole_case.specs.Stages.{Stage, told}

-- the ticket that these lines spell, its flights by their numbers in the book
abbrev pub ticket_in : Book → List TextLine → Stage Ticket
ticket_in b lines = told (ticket_of_lines b lines) of_ticket
