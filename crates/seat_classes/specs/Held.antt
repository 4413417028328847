-- Seat rows that are held: each key that has a row, with its seats.
use Rattle.std.specs.Prelude.{◌≡◌, ◌≤◌, ℕ, List, Option, Some, None, IsSome, slice_index, if◌then◌else◌}
use Rattle.std.specs.Map.{lookup}
use Rattle.fare_law.specs.declared.limits.TheConstants.{MOST_SEAT_ROWS}
use Rattle.fare_law.specs.declared.filings.SeatKey.{SeatKey}
use Rattle.fare_law.specs.declared.flights.Flight.{Flight}
use Rattle.fare_law.specs.Book.{same_seat_key, or_else}
use Rattle.fare_law.specs.Lists.{HasMany}

-- the seats of a key, where it has a row
abbrev pub seats_at : List (SeatKey × List ℕ) → SeatKey → Option (List ℕ)
seats_at held key = lookup (same_seat_key key) held

-- what names the row of all days
abbrev pub daily_key : Flight → SeatKey
daily_key flight = record { carrier = flight.carrier; number = flight.number; from = flight.from; day = None }

-- what names the row of a flight's own day
abbrev pub dated_key : Flight → SeatKey
dated_key flight = record { carrier = flight.carrier; number = flight.number; from = flight.from; day = Some flight.day }

-- the seats of a flight in a class: of the row of its day, or else of the row of all days, or else none
abbrev pub seats_in : List (SeatKey × List ℕ) → Flight → ℕ → ℕ
seats_in held flight class = slice_index (or_else (seats_at held (dated_key flight)) (seats_at held (daily_key flight))) class

-- the key now has these seats, or no row, and each other key what it had
abbrev pub Changes : List (SeatKey × List ℕ) → List (SeatKey × List ℕ) → SeatKey → Option (List ℕ) → Type 0
Changes old new key seats = (other : SeatKey) → seats_at new other ≡ (if same_seat_key other key then seats else seats_at old other)

-- the key has a row
abbrev pub HasRow : List (SeatKey × List ℕ) → SeatKey → Type 0
HasRow held key = IsSome (seats_at held key)

-- so many keys have a row, and no more
pub record Counts (held : List (SeatKey × List ℕ)) (n : ℕ) : Type 0 where
  pub many : HasMany n (HasRow held)
  pub most : (m : ℕ) → HasMany m (HasRow held) → m ≤ n

-- the key has no row, and there are as many rows as there may be
abbrev pub HasNoRoom : List (SeatKey × List ℕ) → SeatKey → Type 0
HasNoRoom held key = (seats_at held key ≡ None) × HasMany MOST_SEAT_ROWS (HasRow held)
