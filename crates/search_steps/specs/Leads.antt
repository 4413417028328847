-- The moves of a state as a walk has them: what they leave, and at what price.
use Rattle.std.specs.Prelude.{◌≡◌, ℕ, ◌+◌, ◌*◌, ◌<◌, [], slice_get, Option, Some, None}
use Rattle.fare_law.specs.declared.moves.Move.{Move}
use Rattle.fare_law.specs.declared.requests.Request.{Request}
use Rattle.fare_law.specs.Book.{Book}
use Rattle.residual_keys.specs.declared.residual.Chosen.{Chosen}
use Rattle.residual_keys.specs.declared.residual.Next.{Next}
use Rattle.residual_keys.specs.declared.residual.Next.TheVariants.{At, Done}
use Rattle.residual_keys.specs.Residuals.{State, no_part}
use Rattle.residual_keys.specs.Steps.{IsChosen}
use Rattle.flight_paths.specs.Positions.{before_slice}

abbrev pub next_of : Option State → Next
next_of None = Done
next_of (Some x) = At x

abbrev pub state_of : Next → Option State
state_of Done = None
state_of (At x) = Some x

-- a move of the state leaves this (none: the end) at this price
abbrev pub leads_of : Book → Request → State → Option State → ℕ → Type 0
leads_of b q x next price = (m : Move) × IsChosen b q x (record { mv = m; price = price; next = next_of next })

abbrev pub level_of : State → ℕ
level_of x = 3 * x.at.slice + x.at.leg

-- the state in which a search begins
abbrev pub IsRoot : Book → Request → State → Type 0
IsRoot b q x = (x.units ≡ []) × (x.part ≡ no_part) × (before_slice b 0 (slice_get q.slices 0) None ≡ Some x.at)

-- each move of what a search reaches costs less than this
abbrev pub MovesCostLess : Book → Request → ℕ → Type 0
MovesCostLess b q most = (x : State) (c : Chosen) → IsChosen b q x c → c.price < most
