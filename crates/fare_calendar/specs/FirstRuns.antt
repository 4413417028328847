-- First runs of residuals, and the rows that tell them.
use Rattle.std.specs.Prelude.{◌≡◌, ◌⊎◌, ℕ, ◌≤◌, ◌<◌, List, Option, Some, None}
use Rattle.fare_law.specs.Book.{Book}
use Rattle.fare_law.specs.Limits.{IsRequest}
use Rattle.fare_law.specs.Lists.{AllDifferent, Each, IsIn}
use Rattle.fare_law.specs.declared.moves.Move.{Move}
use Rattle.fare_law.specs.declared.requests.Request.{Request}
use Rattle.graph_walk.specs.Steps.{AreLive, rows_of}
use Rattle.graph_walk.specs.Walks.{states}
use Rattle.residual_keys.specs.Residuals.{Run, State}
use Rattle.residual_keys.specs.Searches.{Drawn, DrawnBefore, Least}
use Rattle.residual_keys.specs.Steps.{IsChosen}
use Rattle.residual_keys.specs.declared.residual.Next.TheVariants.{At}
use Rattle.residual_table.specs.declared.key.ResidualKey.{ResidualKey}
use Rattle.search_steps.specs.Keys.{live, state}
use Rattle.search_steps.specs.Leads.{level_of}
use Rattle.search_steps.specs.declared.steps.SearchSteps.{SearchSteps}

-- The first of the runs from the state, by price and then code.
pub record IsFirstRun (b : Book) (q : Request) (x : State) (d : Drawn) : Type 0 where
  pub run : Run b q x d.moves d.price
  pub first : (e : Drawn) → Run b q x e.moves e.price → (e ≡ d) ⊎ DrawnBefore d e

-- a first run from the state
abbrev pub HasFirst : Book → Request → State → Type 0
HasFirst b q x = (d : Drawn) × IsFirstRun b q x d

-- what the first run from the state costs, or none where there is no run
abbrev pub IsFirstPrice : Book → Request → State → Option ℕ → Type 0
IsFirstPrice b q x None = (ms : List Move) (price : ℕ) → Run b q x ms price → ⊥
IsFirstPrice b q x (Some price) = (d : Drawn) × IsFirstRun b q x d × (d.price ≡ price)

-- Rows of states, each once, with the least price of a run from it: what a move leaves has a row, at a higher level.
pub record AreClosed (b : Book) (q : Request) (nodes : List (State × Option ℕ)) : Type 0 where
  pub once : AllDifferent (states nodes)
  pub least : Each (λ node. Least b q node.0 node.1) nodes
  pub closed : (x y : State) (m : Move) (price : ℕ) → IsIn x (states nodes) → IsChosen b q x (record { mv = m; price = price; next = At y }) → IsIn y (states nodes)
  pub raises : (x y : State) (m : Move) (price : ℕ) → IsIn x (states nodes) → IsChosen b q x (record { mv = m; price = price; next = At y }) → level_of x < level_of y
  pub low : (x : State) → IsIn x (states nodes) → level_of x ≤ 18

-- the state has a row with a price
abbrev pub HasRun : List (State × Option ℕ) → State → Type 0
HasRun nodes x = (rest : ℕ) × IsIn (x, Some rest) nodes

-- A first run of the one state goes on from the other, which has a run.
pub record GoesOn (b : Book) (q : Request) (nodes : List (State × Option ℕ)) (x y : State) : Type 0 where
  pub run : HasRun nodes y
  pub later : level_of x < level_of y
  pub first : HasFirst b q y → HasFirst b q x

-- where a first run of the state goes on; none is the end of the journey
abbrev pub FirstGoes : Book → Request → List (State × Option ℕ) → State → Option State → Type 0
FirstGoes b q nodes x None = HasFirst b q x
FirstGoes b q nodes x (Some y) = GoesOn b q nodes x y

-- The rows of these keys tell the first runs of their states.
pub record TellRuns (steps : SearchSteps) (rows : List (ResidualKey × Option ℕ)) : Type 0 where
  pub request : IsRequest steps.case.request.now
  pub alive : AreLive (live steps) rows
  pub closed : AreClosed steps.case.book.now steps.case.request.now (rows_of (state steps) rows)
