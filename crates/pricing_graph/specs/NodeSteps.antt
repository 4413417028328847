-- The steps of a graph's nodes: the moves that count, with their codes as words.
use Rattle.std.specs.Prelude.{◌≡◌, ℕ, ◌-◌, List, slice_get, Option, Some, None}
use Rattle.best_steps.specs.declared.steps.Step.{Step}
use Rattle.fare_law.specs.declared.requests.Request.{Request}
use Rattle.fare_law.specs.Book.{Book}
use Rattle.fare_law.specs.Lists.{IsIn}
use Rattle.fare_law.specs.Codes.{move_code}
use Rattle.graph_walk.specs.Walks.{states}
use Rattle.residual_keys.specs.Residuals.{State}
use Rattle.search_steps.specs.declared.least.LeastMove.{LeastMove}
use Rattle.search_steps.specs.Leads.{IsRoot, level_of}
use Rattle.search_steps.specs.LeastMoves.{Counts}

-- The node of what a move leaves, or none where it is the end: nodes are the places of these states.
abbrev pub IsNextNode : List State → Option State → Option ℕ → Type 0
IsNextNode xs None None = Unit {0}
IsNextNode xs None (Some m) = ⊥
IsNextNode xs (Some y) None = ⊥
IsNextNode xs (Some y) (Some m) = slice_get xs m ≡ Some y

-- A step of a node: a move of its state that counts under the bounds, at its price and total, with its code.
pub record HasStep (b : Book) (q : Request) (Bound : State → ℕ → Type 0) (xs : List State) (n : ℕ) (s : Step) : Type 0 where
  pub state : State
  pub there : slice_get xs n ≡ Some state
  pub move : LeastMove State
  pub counts : Counts b q Bound state move
  pub price : s.price ≡ move.price
  pub total : s.total ≡ move.total
  pub word : s.word ≡ move_code move.mv
  pub next : IsNextNode xs move.next s.next

-- how many levels of moves are left at a node
abbrev pub levels_left : Option State → ℕ
levels_left None = 0
levels_left (Some x) = 18 - level_of x

abbrev pub level_at : List State → ℕ → ℕ
level_at xs n = levels_left (slice_get xs n)

-- the bound of a node's residual: the least price of a run from it
abbrev pub BoundIn : List (State × Option ℕ) → State → ℕ → Type 0
BoundIn nodes x rest = IsIn (x, Some rest) nodes

-- A step of a node of these residuals with their least prices.
abbrev pub HasNodeStep : Book → Request → List (State × Option ℕ) → ℕ → Step → Type 0
HasNodeStep b q nodes = HasStep b q (BoundIn nodes) (states nodes)

-- The node is that of the state in which a search begins.
abbrev pub IsRootNode : Book → Request → List (State × Option ℕ) → ℕ → Type 0
IsRootNode b q nodes n = (x : State) × (slice_get (states nodes) n ≡ Some x) × IsRoot b q x
