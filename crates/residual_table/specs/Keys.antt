-- Residuals by the numbers of their positions and open units.
use Rattle.std.specs.Prelude.{◌≡◌, ◌⊎◌, ◌<◌, ◌≤◌, ℕ, Bool, zero, suc, List, [], ◌∷◌, length, slice_get, Option, Some, None, option_map, unwrap_or}
use Rattle.fare_law.specs.Lists.{AllDifferent, Each}
use Rattle.flight_paths.specs.declared.positions.Position.{Position}
use Rattle.open_unit.specs.declared.units.OpenUnit.{OpenUnit}
use Rattle.open_unit.specs.Ranges.{UnitInRanges}
use Rattle.indexmap.specs.IndexSet.{insert_key}
use Rattle.residual_keys.specs.Kept.{PartKept}
use Rattle.residual_keys.specs.Residuals.{State}
use Rattle.residual_table.specs.declared.key.ResidualKey.{ResidualKey}

-- the tables: an element's number is its place
pub record Tables : Type 0 where
  pub positions : List Position
  pub units : List OpenUnit

abbrev pub no_tables : Tables
no_tables = record { positions = []; units = [] }

-- Each element stands once, and lies in its ranges, and one more than its number fits 32 bits.
pub record AreTables (t : Tables) : Type 0 where
  pub positions : AllDifferent t.positions
  pub units : AllDifferent t.units
  pub units_kept : Each UnitInRanges t.units
  pub few_positions : length t.positions ≤ 4294967295
  pub few_units : length t.units ≤ 4294967295

infixl 10 ◌>>=◌
abbrev pub ◌>>=◌ : {A B : Type 0} → Option A → (A → Option B) → Option B
None >>= f = None
(Some x) >>= f = f x

-- the open units of two numbers: 0 is none, and the second stands only beside the first
abbrev pub units_of : List OpenUnit → ℕ → ℕ → Option (List OpenUnit)
units_of us zero zero = Some []
units_of us zero (suc n) = None
units_of us (suc m) zero = option_map (λ u. u ∷ []) (slice_get us m)
units_of us (suc m) (suc n) = do
  u ← slice_get us m
  v ← slice_get us n
  Some (u ∷ v ∷ [])

-- the element is one of the table, added at its end where it wasn't; or the table is as it was
abbrev pub IsAdded : {X : Type 0} → (X → X → Bool) → List X → X → List X → Type 0
IsAdded eq old x new = (new ≡ insert_key eq old x) ⊎ (new ≡ old)

-- The key stands for the residual.
pub record StandsFor (t : Tables) (k : ResidualKey) (x : State) : Type 0 where
  pub at : slice_get t.positions k.position ≡ Some x.at
  pub units : units_of t.units k.first k.second ≡ Some x.units
  pub part : k.part ≡ x.part
  pub kept : PartKept x.part

-- the slot of an element, or of none
abbrev pub IsSlot : {X : Type 0} → List X → ℕ → Option X → Type 0
IsSlot xs n None = n ≡ 0
IsSlot xs n (Some x) = (m : ℕ) × (n ≡ suc m) × (slice_get xs m ≡ Some x)

-- a slot of none, or of an element of the table
abbrev pub HasSlot : {X : Type 0} → List X → ℕ → Type 0
HasSlot xs zero = Unit {0}
HasSlot xs (suc m) = m < length xs

-- each number goes on to stand for what it stands for
abbrev pub KeepsNumbers : {X : Type 0} → List X → List X → Type 0
KeepsNumbers {X} old new = (n : ℕ) (x : X) → slice_get old n ≡ Some x → slice_get new n ≡ Some x

pub record Grows (old new : Tables) : Type 0 where
  pub positions : KeepsNumbers old.positions new.positions
  pub units : KeepsNumbers old.units new.units

-- the key stands for a residual
abbrev pub IsLive : Tables → ResidualKey → Type 0
IsLive t k = (x : State) × StandsFor t k x

-- each key that stands for a residual goes on to stand for it
abbrev pub KeepsResiduals : Tables → Tables → Type 0
KeepsResiduals old new = (k : ResidualKey) (x : State) → StandsFor old k x → StandsFor new k x

-- what stands where a key stands for no residual
abbrev pub nowhere : Position
nowhere = record { slice = 0; leg = 0; place = record { 0 = [] }; via = None; lo = 0; hi = 0 }

-- the residual of a key that stands for one
abbrev pub residual_at : Tables → ResidualKey → State
residual_at t k = record { at = unwrap_or (slice_get t.positions k.position) nowhere; units = unwrap_or (units_of t.units k.first k.second) []; part = k.part }
