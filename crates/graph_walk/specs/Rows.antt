-- Rows of keys, and how they are found: those whose keys share a spot are chained, each to the one before it.
use Rattle.std.specs.Prelude.{◌≡◌, ◌≢◌, ℕ, suc, ◌-◌, ◌/◌, ◌%◌, ◌<◌, ◌≤◌, ◌^◌, Bool, true, false, List, map, length, slice_index, slice_index_or, bit_and, Option}
use Rattle.std.specs.List.{IsDistinct}
use Rattle.std.specs.Map.{keys_of}

-- what a contract sees of rows
pub record Table (K : Type 0) : Type 0 where
  pub entries : List (K × Option ℕ)

-- the row at this place has the key, by its test
abbrev pub IsAt : {K : Type 0} → (K → K → Bool) → K → List (K × Option ℕ) → ℕ → Type 0
IsAt eq key rows place = (place < length rows) × (eq key (slice_index_or (keys_of rows) place key) ≡ true)

-- none has it
abbrev pub IsNowhere : {K : Type 0} → (K → K → Bool) → K → List (K × Option ℕ) → Type 0
IsNowhere eq key rows = (place : ℕ) → place < length rows → eq key (slice_index_or (keys_of rows) place key) ≡ false

-- the spot of a number, of so many
abbrev pub spot_of : ℕ → ℕ → ℕ
spot_of count number = bit_and number (count - 1)

-- the spots of the keys of rows
abbrev pub spots_of : {K : Type 0} → (K → ℕ) → ℕ → List (K × Option ℕ) → List ℕ
spots_of number count rows = map (λ row. spot_of count (number row.0)) rows

-- the mark of a number: some of its digits
abbrev pub mark_of : ℕ → ℕ
mark_of number = (number / 65536) % 65536

-- the marks of the keys of rows
abbrev pub marks_of : {K : Type 0} → (K → ℕ) → List (K × Option ℕ) → List ℕ
marks_of number rows = map (λ row. mark_of (number row.0)) rows

-- One more than the last place before this one that has the spot, or 0 where none has it.
pub record IsLast (spots : List ℕ) (before spot last : ℕ) : Type 0 where
  pub within : last ≤ before
  pub has : (place : ℕ) → last ≡ suc place → slice_index spots place ≡ spot
  pub none : (place : ℕ) → last ≤ place → place < before → slice_index spots place ≢ spot

-- So many places are chained: each is linked to the last one before it that shares its spot, and a spot's head is its last one.
pub record AreChained (spots : List ℕ) (count : ℕ) (links heads : List ℕ) : Type 0 where
  pub linked : (place : ℕ) → place < count → IsLast spots place (slice_index spots place) (slice_index links place)
  pub headed : (spot : ℕ) → spot < length heads → IsLast spots count spot (slice_index heads spot)

-- Rows whose keys differ, all of them chained.
pub record IsTable {K : Type 0} (eq : K → K → Bool) (number : K → ℕ) (rows : List (K × Option ℕ)) (links heads : List ℕ) : Type 0 where
  pub chained : AreChained (spots_of number (length heads) rows) (length rows) links heads
  pub as_many : length links ≡ length rows
  pub distinct : IsDistinct eq (keys_of rows)
  pub few : length rows < 2 ^ 32
  pub room : 0 < length heads
