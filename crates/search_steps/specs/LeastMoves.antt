-- The least moves of a state: those that count under bounds, by their totals and codes.
use Rattle.std.specs.Prelude.{◌≡◌, ℕ, ◌+◌, List, Option, Some, None, option_map, IfSome}
use Rattle.cheap_moves.specs.declared.least.CountedMove.{CountedMove}
use Rattle.fare_law.specs.declared.requests.Request.{Request}
use Rattle.fare_law.specs.Book.{Book}
use Rattle.fare_law.specs.Lists.{Each, KLeast}
use Rattle.fare_law.specs.Codes.{move_code}
use Rattle.fare_law.specs.Best.{Before}
use Rattle.residual_keys.specs.Residuals.{State}
use Rattle.residual_keys.specs.Steps.{IsChosen}
use Rattle.search_steps.specs.declared.least.LeastMove.{LeastMove}
use Rattle.search_steps.specs.Leads.{next_of, state_of}

-- a move with a key, as one with the state that it stands for
abbrev pub least_as : {K X : Type 0} → (K → X) → LeastMove K → LeastMove X
least_as state m = record { mv = m.mv; price = m.price; next = option_map state m.next; total = m.total }

-- what each leaves is the end or stands for a state
abbrev pub LeaveLive : {K : Type 0} → (K → Type 0) → List (LeastMove K) → Type 0
LeaveLive live ms = Each (λ m. IfSome m.next live) ms

-- What a run costs at least after a move that leaves this: nothing at the end of the journey, and else the bound of the state, where it has one.
abbrev pub RestIs : (State → ℕ → Type 0) → Option State → ℕ → Type 0
RestIs Bound None rest = rest ≡ 0
RestIs Bound (Some x) rest = Bound x rest

-- A move of the state that counts under bounds: what it leaves is the end or has a bound, and its total is its price and that.
pub record Counts (b : Book) (q : Request) (Bound : State → ℕ → Type 0) (x : State) (m : LeastMove State) : Type 0 where
  pub move : IsChosen b q x (record { mv = m.mv; price = m.price; next = next_of m.next })
  pub rest : ℕ
  pub bound : RestIs Bound m.next rest
  pub total : m.total ≡ m.price + rest

-- less in total, or as much with a smaller code
abbrev pub IsSooner : {X : Type 0} → LeastMove X → LeastMove X → Type 0
IsSooner m n = Before m.total (move_code m.mv) n.total (move_code n.mv)

-- The first of the moves that count, as many as are wanted.
abbrev pub AreLeastMoves : Book → Request → (State → ℕ → Type 0) → State → ℕ → List (LeastMove State) → Type 0
AreLeastMoves b q Bound x wanted ms = KLeast (Counts b q Bound x) IsSooner wanted ms

-- a state's bound: that of a key which stands for it
abbrev pub BoundBy : {K : Type 0} → (K → Type 0) → (K → State) → (K → Option ℕ) → State → ℕ → Type 0
BoundBy {K} Live state bound x rest = (key : K) × Live key × (state key ≡ x) × (bound key ≡ Some rest)

-- a state's bound, where it has one
abbrev pub HasBound : (State → Option ℕ) → State → ℕ → Type 0
HasBound bound x rest = bound x ≡ Some rest

-- what the move leaves is the end or has a bound
abbrev pub HasRest : (State → Option ℕ) → LeastMove State → Type 0
HasRest bound m = IfSome m.next (λ x. (rest : ℕ) × (bound x ≡ Some rest))

-- a move with its total, as a search has it
abbrev pub least_of : CountedMove → LeastMove State
least_of m = record { mv = m.chosen.mv; price = m.chosen.price; next = state_of m.chosen.next; total = m.total }
