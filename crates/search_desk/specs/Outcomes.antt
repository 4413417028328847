-- What is right for an ask.
use Rattle.std.specs.Prelude.{List, Option, None, Some}
use Rattle.fare_law.specs.Book.{Book, Timetable}
use Rattle.fare_law.specs.declared.filings.Filing.{Filing}
use Rattle.fare_law.specs.declared.tickets.Priced.{Priced}
use Rattle.run_core.specs.Outcomes.{IsOutcome}
use Rattle.serve_desks.specs.declared.log.Body.{Body}
use Rattle.serve_desks.specs.declared.log.Body.TheVariants.{Tickets, TooLarge}
use Rattle.serve_desks.specs.declared.workload.Ask.{Ask}

-- the version of these filings over this timetable
abbrev pub version_of : Timetable → List Filing → Book
version_of timetable filings = record { timetable = timetable; entries = filings }

-- the tickets of a body, none where the search is too large
abbrev pub tickets_in : Body → Option (List Priced)
tickets_in (Tickets tickets) = Some tickets
tickets_in TooLarge = None

-- The body tells the outcome of an ask on the version of these filings.
abbrev pub AnswersAsk : Ask → Timetable → List Filing → Body → Type 0
AnswersAsk ask timetable filings body = IsOutcome (version_of timetable filings) ask.request ask.budget (tickets_in body)
