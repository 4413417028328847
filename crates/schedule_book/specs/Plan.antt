-- What a schedule has.
use Rattle.std.specs.Prelude.{List}
use Rattle.fare_law.specs.declared.flights.Flight.{Flight}
use Rattle.fare_law.specs.declared.rows.PlaceRow.{PlaceRow}

-- the places, and the dated flights in order
pub record Plan : Type 0 where
  pub places : List PlaceRow
  pub flights : List Flight
