-- What is found once for a search.
use Rattle.std.specs.Prelude.{◌≡◌, ◌<◌, ◌+◌, ◌*◌, ℕ, List, length, slice_get, Some}
use Rattle.component_table.specs.declared.networks.FareTails.{FareTails}
use Rattle.component_table.specs.declared.networks.Network.{Network}
use Rattle.component_table.specs.declared.networks.PlaceTails.{PlaceTails}
use Rattle.component_table.specs.declared.slice_tails.SliceTails.{SliceTails}
use Rattle.component_table.specs.declared.tables.TableRoom.{TableRoom}
use Rattle.component_table.specs.Begun.{IsKnown}
use Rattle.component_table.specs.Tables.{IsPricedTable}
use Rattle.outline_tables.specs.declared.flight_tables.FlightTables.{FlightTables}
use Rattle.outline_tables.specs.declared.outline_numbers.Priced.{Priced}
use Rattle.outline_tables.specs.declared.outline_numbers.RuledOutline.{RuledOutline}
use Rattle.outline_tables.specs.FlightTables.{TableStands}
use Rattle.fare_law.specs.declared.flights.Flight.{Flight}
use Rattle.fare_ends.specs.Begins.{of_flight}
use Rattle.component_table.specs.Crossings.{IsSliceTails}
use Rattle.fare_ends.specs.Markets.{AreMarkets}
use Rattle.fare_ends.specs.Masks.{AreMasks}
use Rattle.fare_ends.specs.Tails.{AreEnds, AreTailsFrom, AreTailsOver}
use Rattle.fare_law.specs.declared.names.Place.{Place}
use Rattle.fare_law.specs.declared.requests.Request.{Request}
use Rattle.fare_law.specs.Book.{Book, flight_at}
use Rattle.fare_law.specs.Lists.{Each}
use Rattle.flight_paths.specs.Heads.{chosen}
use Rattle.flight_paths.specs.Marks.{AreMarks}
use Rattle.outline_tables.specs.FlightTables.{AreRanges}
use Rattle.outline_tables.specs.Merges.{IsMerging}

-- Each table that is kept has what begins with its flight at its slice and leg, whichever place was called at first.
abbrev pub AreFlightTables : Book → Request → List RuledOutline → FlightTables → Type 0
AreFlightTables b q known kept = (slice leg flight : ℕ) (table : List Priced) → leg < 3 → TableStands kept (slice * 3 + leg) flight table → (f : Flight) → flight_at b flight ≡ Some f
    → IsPricedTable b q (of_flight slice leg flight f) known table

-- These are numbers of tails of a slice: of each that ends where a fare is filed from the place or to it.
pub record AreFareTailsOf (b : Book) (q : Request) (tails : List SliceTails) (t : FareTails) : Type 0 where
  pub among : SliceTails
  pub stands : slice_get tails t.among ≡ Some among
  pub within : Each (λ n. n < length among.paths) t.numbers
  pub are : AreTailsFrom b q t.place t.slice (chosen among.paths t.numbers)

-- The fares and outlines that are known are the book's, each table that is kept is that of its flight, and a merge may begin.
pub record IsTableRoom (b : Book) (q : Request) (r : TableRoom) : Type 0 where
  pub known : IsKnown b r.known
  pub ranges : AreRanges r.flights
  pub flights : AreFlightTables b q r.known.outlines.of.items r.flights
  pub merging : IsMerging r.merging

-- The markets are the book's, the masks are those of its flights, each list of tails is that of its slice, their marks hold of their flights, they end where it is said, each list of numbers is of those of them that its place needs, and what tables are made of is so.
pub record IsNetwork (b : Book) (q : Request) (n : Network) : Type 0 where
  pub markets : AreMarkets b n.markets.kept.items
  pub tails : Each (λ t. AreTailsOver b q.slices t.slice t.paths) n.tails.items
  pub marks : Each (λ (t : SliceTails). AreMarks b.timetable.flights t.paths t.marks) n.tails.items
  pub masks : AreMasks b q n.masks
  pub ends : Each (λ (t : SliceTails). AreEnds b t.paths t.ends) n.tails.items
  pub slices : Each (IsSliceTails b q n.room.known.fares) n.tails.items
  pub fare_tails : Each (AreFareTailsOf b q n.tails.items) n.fare_tails.items
  pub room : IsTableRoom b q n.room

-- all but the numbers of positions is as it was
pub record KeepsRoom (old new : TableRoom) : Type 0 where
  pub fares : new.known.fares ≡ old.known.fares
  pub outlines : new.known.outlines ≡ old.known.outlines
  pub flights : new.flights ≡ old.flights
  pub begun : new.begun ≡ old.begun
  pub merging : new.merging ≡ old.merging

-- the tails of this slice stand at this place
pub record TailsStand (tails : List SliceTails) (slice at : ℕ) : Type 0 where
  pub kept : SliceTails
  pub stands : slice_get tails at ≡ Some kept
  pub slice_is : kept.slice ≡ slice

-- These are tails of a slice with their marks, and numbers of those that the place needs.
pub record ArePlaceTails (b : Book) (q : Request) (place : Place) (slice : ℕ) (t : PlaceTails) : Type 0 where
  pub within : Each (λ n. n < length t.some.all.now) t.some.numbers.now
  pub are : AreTailsFrom b q place slice (chosen t.some.all.now t.some.numbers.now)
  pub marks : AreMarks b.timetable.flights t.some.all.now t.some.marks.now
