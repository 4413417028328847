-- What the command `serve` makes of the bytes of its input.
use Rattle.std.specs.Prelude.{◌≡◌, ℕ, List, map, Option, Ok}
use Rattle.std.specs.Arc.{arc_value}
use Rattle.fare_law.specs.declared.filings.Filing.{Filing}
use Rattle.fare_law.specs.declared.requests.Request.{Request}
use Rattle.script_text.specs.declared.lines.Script.{Script}
use Rattle.serve_desks.specs.declared.workload.Ask.{Ask}
use Rattle.serve_desks.specs.declared.workload.Workload.{Workload}
use Rattle.serving.specs.Serves.{Serves}
use Rattle.whole_case.specs.ServeCases.{serve_case}
use Rattle.whole_case.specs.declared.serve.ServeCase.{ServeCase}

-- A case of a serving run.
pub record HasServing (best : Option ℕ) (bytes : List ℕ) : Type 0 where
  pub found : ServeCase
  pub spelled : serve_case best bytes (Ok found)

-- what is asked by these requests, each within the budget
abbrev pub asks_of : ℕ → List Request → List Ask
asks_of budget requests = map (λ q. record { request = q; budget = budget }) requests

-- This is what a run has to do that has these later filings, these requests and this script.
pub record IsWorkOf (budget : ℕ) (later : List Filing) (requests : List Request) (script : Script) (work : Workload) : Type 0 where
  pub later_same : map arc_value work.later ≡ later
  pub asks_same : work.asks ≡ asks_of budget requests
  pub script_same : work.script ≡ script

-- The text is that of a serving run of the case.
pub record TellsServing (budget : ℕ) (found : ServeCase) (text : List ℕ) : Type 0 where
  pub work : Workload
  pub is : IsWorkOf budget found.later found.requests found.script work
  pub serves : Serves found.book work text

-- The bytes spell a case, and the text is that of a serving run of it.
pub record TellsRun (best : Option ℕ) (budget : ℕ) (bytes text : List ℕ) : Type 0 where
  pub case : HasServing best bytes
  pub tells : TellsServing budget case.found text
