-- The least moves of a residual: those that count under bounds, by their totals and codes. They are gathered path by path, and of many only the first are kept.
use Rattle.std.specs.Prelude.{◌≡◌, ◌⊎◌, ℕ, ◌≤◌, List, take, Option, Some, None}
use Rattle.std.specs.List.Sorted.{IsPermutation}
use Rattle.cheap_moves.specs.declared.least.CountedMove.{CountedMove}
use Rattle.cheap_moves.specs.Making.{IsWithinOn, Of}
use Rattle.cheap_moves.specs.Within.{IsMoveWithin, IsWithin, total_of}
use Rattle.fare_law.specs.declared.requests.Request.{Request}
use Rattle.fare_law.specs.Best.{Before}
use Rattle.fare_law.specs.Book.{Book}
use Rattle.fare_law.specs.Codes.{move_code}
use Rattle.fare_law.specs.Lists.{AllDifferent, Each, EachPair, HasMany, IsIn, KLeast}
use Rattle.flight_paths.specs.declared.positions.Path.{Path}
use Rattle.residual_keys.specs.declared.residual.Chosen.{Chosen}
use Rattle.residual_keys.specs.Residuals.{State}

-- a move with its total
abbrev pub counted : (State → Option ℕ) → Chosen → CountedMove
counted bound c = record { chosen = c; total = total_of bound c }

-- less in total, or as much with a smaller code
abbrev pub IsSooner : CountedMove → CountedMove → Type 0
IsSooner m n = Before m.total (move_code m.chosen.mv) n.total (move_code n.chosen.mv)

-- a move of the residual that counts within the limit, with its total
abbrev pub Counts : Book → Request → State → (State → Option ℕ) → Option ℕ → CountedMove → Type 0
Counts b q r bound limit m = IsMoveWithin b q r bound limit m.chosen × (m.total ≡ total_of bound m.chosen)

-- the first of the moves that count, as many as are wanted
abbrev pub AreLeastMoves : Book → Request → State → (State → Option ℕ) → ℕ → List CountedMove → Type 0
AreLeastMoves b q r bound wanted ms = KLeast (Counts b q r bound None) IsSooner wanted ms

-- a move on one of these paths that counts within the limit, with its total
abbrev pub CountsOn : Book → Request → State → (State → Option ℕ) → Option ℕ → List Path → CountedMove → Type 0
CountsOn b q r bound limit paths m = Of (IsWithinOn b q r bound limit) paths m.chosen × (m.total ≡ total_of bound m.chosen)

-- These are the first of others in order, as many as are wanted.
pub record AreFirst (wanted : ℕ) (all first : List CountedMove) : Type 0 where
  pub sorted : List CountedMove
  pub same : IsPermutation all sorted
  pub ordered : EachPair IsSooner sorted
  pub front : first ≡ take wanted sorted

-- What is looked for still: all within the first limit, or what is within one beneath which as many are kept as are wanted.
abbrev pub IsLimit : ℕ → Option ℕ → List CountedMove → Option ℕ → Type 0
IsLimit wanted first kept limit = (limit ≡ first) ⊎ ((n : ℕ) × (limit ≡ Some n) × IsWithin first n × HasMany wanted (λ m. IsIn m kept × (m.total ≤ n)))

-- Each of some moves is kept once, or as many are kept as are wanted that come before it.
pub record AreKept (Has : CountedMove → Type 0) (wanted : ℕ) (first : Option ℕ) (kept : List CountedMove) (limit : Option ℕ) : Type 0 where
  pub once : AllDifferent kept
  pub one : (m n : CountedMove) → IsIn m kept → IsIn n kept → m.chosen.mv ≡ n.chosen.mv → m ≡ n
  pub each : Each Has kept
  pub rest : (m : CountedMove) → Has m → IsIn m kept ⊎ HasMany wanted (λ n. IsIn n kept × IsSooner n m)
  pub limit_is : IsLimit wanted first kept limit
