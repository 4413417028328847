-- The classes with seats for the party on flights.
use Rattle.std.specs.Prelude.{◌≡◌, ◌⊎◌, ◌↔◌, ℕ, ◌<◌, ◌≤◌, ◌^◌, List, Option, Some, slice_get, IsBitSet}
use Rattle.fare_ends.specs.declared.masks.Masks.{Masks}
use Rattle.fare_law.specs.declared.flights.Flight.{Flight}
use Rattle.fare_law.specs.declared.requests.Request.{Request}
use Rattle.fare_law.specs.Book.{Book, flight_at, seats}

-- Bit c is set exactly where class c has seats for the party on the flight.
pub record IsMask (b : Book) (q : Request) (f : Flight) (mask : ℕ) : Type 0 where
  pub fits : mask < 2 ^ 32
  pub classes : (class : ℕ) → class < 32 → IsBitSet mask class ↔ (q.party ≤ seats b f class)

-- the mask is that of the flight of this number, if there is one
abbrev pub IsMaskOf : Book → Request → ℕ → ℕ → Type 0
IsMaskOf b q n mask = (f : Flight) → flight_at b n ≡ Some f → IsMask b q f mask

-- Each mask that is known is that of its flight.
pub record AreMasks (b : Book) (q : Request) (ms : Masks) : Type 0 where
  pub each : (n mask : ℕ) → slice_get ms.known.items n ≡ Some (Some mask) → IsMaskOf b q n mask

-- each mask that is known was known before
abbrev pub KnowsNoMore : List (Option ℕ) → List (Option ℕ) → Type 0
KnowsNoMore old new = (n mask : ℕ) → slice_get new n ≡ Some (Some mask) → slice_get old n ≡ Some (Some mask)

-- or is this one, at its place
abbrev pub PutsMask : ℕ → ℕ → List (Option ℕ) → List (Option ℕ) → Type 0
PutsMask at own old new = (n mask : ℕ) → slice_get new n ≡ Some (Some mask) → (slice_get old n ≡ Some (Some mask)) ⊎ ((n ≡ at) × (mask ≡ own))
