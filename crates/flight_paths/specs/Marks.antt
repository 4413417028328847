-- Marks of places: a bit for each, so that lists of places whose marks share no bit share no place.
use Rattle.std.specs.Prelude.{◌≡◌, ℕ, ◌+◌, ◌*◌, ◌%◌, List, Some, slice_get, slice_index, IsBitSet}
use Rattle.fare_law.specs.declared.flights.Flight.{Flight}
use Rattle.fare_law.specs.declared.names.Place.{Place}
use Rattle.fare_law.specs.Lists.{Each}
use Rattle.flight_paths.specs.declared.positions.Path.{Path}
use Rattle.flight_paths.specs.Ways.{AreFlightsOf, arrivals_of}

-- the bit that stands for a place; others may have the same
abbrev pub place_bit : Place → ℕ
place_bit p = (slice_index p.0 0 * 676 + slice_index p.0 1 * 26 + slice_index p.0 2) % 64

-- the mark has the bits of these places
abbrev pub HasBits : ℕ → List Place → Type 0
HasBits mark places = Each (λ p. IsBitSet mark (place_bit p)) places

-- each of these marks has the bits of the places where the flights of its tail arrive; there may be fewer marks than tails
abbrev pub AreMarks : List Flight → List Path → List ℕ → Type 0
AreMarks flights tails marks = (n mark : ℕ) (tail : Path) (fs : List Flight) → slice_get marks n ≡ Some mark → slice_get tails n ≡ Some tail → AreFlightsOf flights tail.flights fs → HasBits mark (arrivals_of fs)
