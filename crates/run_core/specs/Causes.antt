-- Why an event is not taken, and where a run of events stops.
use Rattle.std.specs.Prelude.{◌≡◌, ℕ, ◌≤◌, ◌<◌, List, length, reverse, take, slice_get, Option, Some, None, Result, Ok, Err}
use Rattle.std.specs.Arc.{arc_value}
use Rattle.fare_book.specs.declared.faults.BookFault.{BookFault}
use Rattle.fare_book.specs.declared.faults.BookFault.TheVariants.{Refused as RefusedByBook, Mem as BookMem}
use Rattle.fare_law.specs.declared.filings.Filing.{Filing}
use Rattle.fare_law.specs.declared.requests.Request.{Request}
use Rattle.fare_law.specs.declared.requests.Why.{Why}
use Rattle.fare_law.specs.Book.{Book}
use Rattle.fare_law.specs.Faults.{Fault}
use Rattle.fare_law.specs.Requests.{judged, known_places}
use Rattle.run_core.specs.declared.events.Event.{Event}
use Rattle.run_core.specs.declared.events.Event.TheVariants.{File, Look, Fetch, Keep, Answer}
use Rattle.run_core.specs.declared.fault.StepFault.{StepFault}
use Rattle.run_core.specs.declared.fault.StepFault.TheVariants.{NoDesk, NotNow, BadFiling, BadSearch, Mem}
use Rattle.run_core.specs.Worlds.{ComesOf, Sees, WorldView, sight}

-- why a filing is not taken: its fault in the last version
abbrev pub IsRefusedFiling : Book → Filing → StepFault → Type 0
IsRefusedFiling b filing (BadFiling r) = Fault b filing r.action r.why
IsRefusedFiling b filing Mem = Unit {0}
IsRefusedFiling b filing NoDesk = ⊥
IsRefusedFiling b filing NotNow = ⊥
IsRefusedFiling b filing (BadSearch why) = ⊥

-- why a desk doesn't look: there is none of this number
abbrev pub IsStranger : WorldView → ℕ → StepFault → Type 0
IsStranger w desk NoDesk = length w.desks ≤ desk
IsStranger w desk Mem = Unit {0}
IsStranger w desk NotNow = ⊥
IsStranger w desk (BadFiling r) = ⊥
IsStranger w desk (BadSearch why) = ⊥

-- the desk has not looked since its last answer
pub record SeesNothing (w : WorldView) (desk : ℕ) : Type 0 where
  pub within : desk < length w.desks
  pub nothing : sight w desk ≡ None

-- why a desk doesn't read or keep: there is none of this number, or it has not looked
abbrev pub IsUnseen : WorldView → ℕ → StepFault → Type 0
IsUnseen w desk NoDesk = length w.desks ≤ desk
IsUnseen w desk NotNow = SeesNothing w desk
IsUnseen w desk Mem = Unit {0}
IsUnseen w desk (BadFiling r) = ⊥
IsUnseen w desk (BadSearch why) = ⊥

-- why a version gives no answer: the first reason for which the request is refused
abbrev pub IsRefusedSearch : Book → Request → StepFault → Type 0
IsRefusedSearch b q (BadSearch why) = judged (known_places b) q ≡ Some why
IsRefusedSearch b q Mem = Unit {0}
IsRefusedSearch b q NoDesk = ⊥
IsRefusedSearch b q NotNow = ⊥
IsRefusedSearch b q (BadFiling r) = ⊥

-- the request is refused by the version that the desk looked at, for this reason
pub record IsBadSearch (w : WorldView) (desk : ℕ) (q : Request) (why : Why) : Type 0 where
  pub version : Book
  pub seen : Sees w desk version
  pub wrong : judged (known_places version) q ≡ Some why

-- why a desk doesn't answer: there is none of this number, it has not looked, or the request is refused
abbrev pub IsRefusedAnswer : WorldView → ℕ → Request → StepFault → Type 0
IsRefusedAnswer w desk q NoDesk = length w.desks ≤ desk
IsRefusedAnswer w desk q NotNow = SeesNothing w desk
IsRefusedAnswer w desk q (BadSearch why) = IsBadSearch w desk q why
IsRefusedAnswer w desk q Mem = Unit {0}
IsRefusedAnswer w desk q (BadFiling r) = ⊥

-- why an event is not taken
abbrev pub HasCause : WorldView → Event → StepFault → Type 0
HasCause w (File filing) fault = IsRefusedFiling w.book (arc_value filing) fault
HasCause w (Look desk) fault = IsStranger w desk fault
HasCause w (Fetch desk key) fault = IsUnseen w desk fault
HasCause w (Keep desk key) fault = IsUnseen w desk fault
HasCause w (Answer desk q budget) fault = IsRefusedAnswer w desk q fault

-- a book's fault, as that of a step
abbrev pub fault_of : BookFault → StepFault
fault_of (RefusedByBook r) = BadFiling r
fault_of BookMem = Mem

-- the events that were taken: all of them, or those before the first that was not
abbrev pub taken : List Event → Result (Unit {0}) (ℕ × StepFault) → List Event
taken events (Ok _) = events
taken events (Err e) = take e.0 events

-- The event of this place is the first that was not taken, for this reason, in the world that those before it left.
pub record StopsAt (w : WorldView) (events : List Event) (e : ℕ × StepFault) : Type 0 where
  pub event : Event
  pub place : slice_get events e.0 ≡ Some event
  pub cause : HasCause w event e.1
