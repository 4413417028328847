-- What a step adds to what begins at a position.
use Rattle.std.specs.Prelude.{◌≡◌, ℕ, List, [], ◌∷◌, ◌++◌}
use Rattle.fare_law.specs.declared.requests.Request.{Request}
use Rattle.fare_law.specs.Book.{Book}
use Rattle.flight_paths.specs.declared.positions.Position.{Position}
use Rattle.joint_paths.specs.declared.crossing_heads.CrossingHead.{CrossingHead}
use Rattle.component_table.specs.Begun.{AreCrossingHeads}
use Rattle.component_table.specs.Tables.{HasThose}
use Rattle.outline_tables.specs.declared.outline_numbers.Priced.{Priced}
use Rattle.outline_tables.specs.declared.outline_numbers.RuledOutline.{RuledOutline}
use Rattle.outline_tables.specs.Merges.{IsLeastMerge}
use Rattle.outlines.specs.declared.outline.Outline.{Outline}

-- the flights begin with this one
pub record BeginsBy (n : ℕ) (ns : List ℕ) : Type 0 where
  pub rest : List ℕ
  pub is : ns ≡ n ∷ rest

-- A table was merged into another. Its entries are the position's, and of such components it misses none.
pub record MergesMore (b : Book) (q : Request) (at : Position) (these : Outline → List ℕ → Type 0) (known : List RuledOutline) (old new : List Priced) : Type 0 where
  pub table : List Priced
  pub has : HasThose b q at these known table
  pub merged : (tables : List (List Priced)) → IsLeastMerge tables old → IsLeastMerge (tables ++ table ∷ []) new

-- behind the heads that were gathered before stand those of a position that cross
pub record GathersHeads (b : Book) (q : Request) (at : Position) (old new : List CrossingHead) : Type 0 where
  pub more : List CrossingHead
  pub joined : new ≡ old ++ more
  pub crossing : AreCrossingHeads b q at more
