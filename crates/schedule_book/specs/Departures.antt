-- The numbers of flights by origin.
use Rattle.std.specs.Prelude.{◌≡◌, ◌↔◌, ℕ, suc, ◌≤◌, ◌<◌, ◌+◌, ◌*◌, List, [], ◌∷◌, length, map, slice_get, slice_index, Some}
use Rattle.std.specs.Ordering.{nat_cmp}
use Rattle.std.specs.List.Sorted.{IsPermutation, IsSorted}
use Rattle.fare_law.specs.declared.flights.Flight.{Flight}
use Rattle.fare_law.specs.declared.names.Place.{Place}
use Rattle.fare_law.specs.Lists.{Each, EachPair, IsIn}

-- the flight of this number departs from the place
abbrev pub DepartsFrom : List Flight → Place → ℕ → Type 0
DepartsFrom flights place n = (f : Flight) × (slice_get flights n ≡ Some f) × (f.from ≡ place)

-- the numbers from lo on and below hi of the flights that depart from the place, ascending
pub record AreDepartures (flights : List Flight) (place : Place) (lo hi : ℕ) (numbers : List ℕ) : Type 0 where
  pub ascending : EachPair (λ m n. m < n) numbers
  pub are : (n : ℕ) → IsIn n numbers ↔ ((lo ≤ n) × (n < hi) × DepartsFrom flights place n)

-- each flight's origin with its number, counted from a number
abbrev pub origins : ℕ → List Flight → List (Place × ℕ)
origins n [] = []
origins n (f ∷ fs) = (f.from, n) ∷ origins (suc n) fs

-- letters as one number
abbrev pub letters_number : List ℕ → ℕ
letters_number letters = (slice_index letters 0 * 256 + slice_index letters 1) * 256 + slice_index letters 2

-- an origin and a flight's number as one number
abbrev pub packed : Place × ℕ → ℕ
packed k = letters_number k.0.0 * 4294967296 + k.1

-- three letters of a byte each
abbrev pub AreLetters : List ℕ → Type 0
AreLetters letters = (length letters ≡ 3) × Each (λ letter. letter < 256) letters

-- a place of such letters, and a number that has 32 bits
abbrev pub IsKey : Place × ℕ → Type 0
IsKey k = AreLetters k.0.0 × (k.1 < 4294967296)

-- the flights' origins with their numbers, in order: packed, and the numbers alone
pub record Indexes (flights : List Flight) (keys numbers : List ℕ) : Type 0 where
  pub pairs : List (Place × ℕ)
  pub pairs_are : IsPermutation (origins 0 flights) pairs
  pub each : Each IsKey pairs
  pub keys_are : keys ≡ map packed pairs
  pub sorted : IsSorted nat_cmp keys
  pub numbers_are : numbers ≡ map (λ k. k.1) pairs
