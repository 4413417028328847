-- Searches and replies as events of a world.
use Rattle.std.specs.Prelude.{◌≡◌, ℕ, List, [], ◌∷◌, ◌++◌, length, take, Option, None, Some, Result, Ok, Err}
use Rattle.fare_law.specs.Book.{Book}
use Rattle.fare_law.specs.declared.filings.Filing.{Filing}
use Rattle.fare_law.specs.declared.requests.Request.{Request}
use Rattle.fare_law.specs.declared.requests.Why.{Why}
use Rattle.run_core.specs.Causes.{HasCause}
use Rattle.run_core.specs.Counting.{IsRecordOf, filed_at_look}
use Rattle.run_core.specs.Worlds.{ComesOf, StepsTo, WorldView}
use Rattle.run_core.specs.declared.events.Event.{Event}
use Rattle.run_core.specs.declared.events.Event.TheVariants.{File, Look, Fetch, Keep, Answer as Answers}
use Rattle.run_core.specs.declared.events.Outcome.{Outcome}
use Rattle.run_core.specs.declared.events.Outcome.TheVariants.{Tickets, TooLarge}
use Rattle.run_core.specs.declared.fault.StepFault.TheVariants.{BadSearch}
use Rattle.search_core.specs.declared.outcome.Answer.{Answer}
use Rattle.search_core.specs.declared.outcome.SearchFault.{SearchFault}
use Rattle.search_core.specs.declared.outcome.SearchFault.TheVariants.{BadRequest, TooLarge as IsTooLarge, Mem}
use Rattle.serve_desks.specs.declared.log.Body.{Body}
use Rattle.serve_desks.specs.declared.log.Body.TheVariants.{Tickets as TellsTickets, TooLarge as TellsTooLarge}
use Rattle.serve_desks.specs.declared.log.Reply.{Reply}
use Rattle.serve_desks.specs.declared.workload.Ask.{Ask}

-- the desk reads or keeps the offers of a key
abbrev pub IsOfOffers : ℕ → Event → Type 0
IsOfOffers desk (Fetch d key) = d ≡ desk
IsOfOffers desk (Keep d key) = d ≡ desk
IsOfOffers desk (File filing) = ⊥
IsOfOffers desk (Look d) = ⊥
IsOfOffers desk (Answers d q budget) = ⊥

-- what came of a search as an outcome, where it has one
abbrev pub outcome_of : Result Answer SearchFault → Option Outcome
outcome_of (Ok answer) = Some (Tickets answer.tickets)
outcome_of (Err IsTooLarge) = Some TooLarge
outcome_of (Err (BadRequest why)) = None
outcome_of (Err Mem) = None

-- The desk's answer is taken in this world, and what it records stands behind the answers before: the version that the desk
-- looked at, which is this one, and the outcome.
pub record IsRecorded (looked : Book) (before u : WorldView) (desk : ℕ) (q : Request) (budget : ℕ) (outcome : Outcome) : Type 0 where
  pub after : WorldView
  pub taken : StepsTo u (Answers desk q budget) after
  pub recorded : after.answers ≡ before.answers ++ record { desk = desk; request = q; version = length looked.entries; outcome = outcome } ∷ []

-- A search of a desk is a look, reads and keeps, and an answer: to whatever world the look and these lead from this one, the
-- answer is taken there, and records what the search came to.
abbrev pub IsSearchOf : WorldView → ℕ → Request → ℕ → List Event → Outcome → Type 0
IsSearchOf w desk q budget between outcome = (u : WorldView) → ComesOf w (between ++ Look desk ∷ []) u → IsRecorded w.book w u desk q budget outcome

-- The same search is refused for this reason.
abbrev pub IsRefusedSearchOf : WorldView → ℕ → Request → ℕ → List Event → Why → Type 0
IsRefusedSearchOf w desk q budget between why = (u : WorldView) → ComesOf w (between ++ Look desk ∷ []) u → HasCause u (Answers desk q budget) (BadSearch why)

-- a body as an outcome
abbrev pub outcome_in : Body → Outcome
outcome_in (TellsTickets tickets) = Tickets tickets
outcome_in TellsTooLarge = TooLarge

-- The reply to an ask is what the core records: in whatever list of events a desk last looked after the entries of the reply's
-- version, that many of these filings, an Answer of it records the reply.
abbrev pub IsReplyOf : Book → List Filing → Ask → Reply → Type 0
IsReplyOf opening filings ask r =
    (desk : ℕ) (past : List Event) (filed : List Filing) → filed_at_look desk past ≡ Some filed → opening.entries ++ filed ≡ take r.number filings
    → IsRecordOf opening (record { desk = desk; request = ask.request; budget = ask.budget; filed = filed_at_look desk past })
    (record { desk = desk; request = ask.request; version = r.number; outcome = outcome_in r.body })
