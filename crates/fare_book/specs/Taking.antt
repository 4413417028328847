-- Where the actions of a filing stop.
use Rattle.std.specs.Prelude.{◌≡◌, ℕ, suc, List, ◌∷◌, ◌++◌, length}
use Rattle.fare_law.specs.declared.filings.Action.{Action}
use Rattle.fare_law.specs.declared.filings.BookWhy.{BookWhy}
use Rattle.fare_law.specs.declared.filings.Filing.{Filing}
use Rattle.fare_law.specs.Book.{Book}
use Rattle.fare_law.specs.Faults.{Fault as FaultOfFiling, FaultOf, Why, filed}
use Rattle.fare_book.specs.declared.draft.Stop.{Stop}
use Rattle.fare_book.specs.declared.draft.Stop.TheVariants.{Fault, Mem as NoMemory}
use Rattle.fare_book.specs.declared.faults.BookFault.{BookFault}
use Rattle.fare_book.specs.declared.faults.BookFault.TheVariants.{Refused, Mem}

-- no action has a fault after those before it
abbrev pub NoneStops : Book → List Action → Type 0
NoneStops b actions = (front : List Action) (earlier : Action) (rest : List Action) → actions ≡ front ++ earlier ∷ rest → (other : BookWhy) → Why (filed b front) earlier other → ⊥

-- the fault is that of the first action that has one
abbrev pub StopsAt : Book → List Action → BookFault → Type 0
StopsAt b actions (Refused r) =
    (before : List Action) × (action : Action) × (after : List Action) × (actions ≡ before ++ action ∷ after) × (r.action ≡ suc (length before)) × FaultOf (filed b before) action r.why × NoneStops b before
StopsAt b actions Mem = Unit {0}

-- a refusal is the filing's fault
abbrev pub HasCause : Book → Filing → BookFault → Type 0
HasCause b filing (Refused r) = FaultOfFiling b filing r.action r.why
HasCause b filing Mem = Unit {0}

-- what stops at an action, as a book tells it
abbrev pub fault_at : ℕ → Stop → BookFault
fault_at action (Fault why) = Refused (record { action = action; why = why })
fault_at action NoMemory = Mem
