-- Where the node of a key may be kept, and what a pass knows of the cells of a store.
use Rattle.std.specs.Prelude.{◌≡◌, ◌≢◌, ◌⊎◌, ℕ, ◌+◌, ◌%◌, ◌<◌, min, List, length, slice_index_or, Option, Some, None}
use Rattle.fare_component.specs.Homes.{home_of}
use Rattle.fare_component.specs.Keys.{Asked}

-- how many home cells a key has among n cells
abbrev pub homes : ℕ → ℕ
homes n = min 8 n

-- the j-th of them, from 0
abbrev pub home : ℕ → Asked → ℕ → ℕ
home n a j = (home_of a + j) % n

-- the names of the store's cells, and for each cell what the node answers that the pass knows there
pub record Known : Type 0 where
  pub cells : List ℕ
  pub known : List (Option Asked)

-- the node that is known in a cell
abbrev pub at_cell : Known → ℕ → Option Asked
at_cell p i = slice_index_or p.known i None

-- the node that is known in the j-th home cell of a key
abbrev pub at_home : Known → Asked → ℕ → Option Asked
at_home p a j = at_cell p (home (length p.cells) a j)

-- nothing that was known is lost
pub record Keeps (before after : Known) : Type 0 where
  pub cells : after.cells ≡ before.cells
  pub kept : (i : ℕ) (a : Asked) → at_cell before i ≡ Some a → at_cell after i ≡ Some a

-- one cell was read, and this was found there
pub record ReadsAt (before after : Known) (i : ℕ) (found : Option Asked) : Type 0 where
  pub keeps : Keeps before after
  pub here : at_cell after i ≡ found
  pub others : (j : ℕ) → j ≢ i → at_cell after j ≡ at_cell before j

-- a node of the key is known in one of its home cells
pub record Knows (p : Known) (a : Asked) : Type 0 where
  pub place : ℕ
  pub within : place < homes (length p.cells)
  pub here : at_home p a place ≡ Some a

-- a node of another key is known in the j-th home cell
pub record IsTaken (p : Known) (a : Asked) (j : ℕ) : Type 0 where
  pub other : Asked
  pub here : at_home p a j ≡ Some other
  pub differs : other ≢ a

-- a node of another key is known in each home cell
pub record HasNoRoom (p : Known) (a : Asked) : Type 0 where
  pub each : (j : ℕ) → j < homes (length p.cells) → IsTaken p a j

-- the key is settled: its node is known, or there is no room for it
abbrev pub Published : Known → Asked → Type 0
Published p a = Knows p a ⊎ HasNoRoom p a

-- what is settled stays so
pub record StaysPublished (before after : Known) : Type 0 where
  pub each : (a : Asked) → Published before a → Published after a
