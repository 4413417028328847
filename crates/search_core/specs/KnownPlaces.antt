-- The places that a timetable knows.
use Rattle.std.specs.Prelude.{List, map}
use Rattle.fare_law.specs.declared.names.Place.{Place}
use Rattle.fare_law.specs.declared.rows.PlaceRow.{PlaceRow}

-- the places of these rows
abbrev pub known_rows : List PlaceRow → List Place
known_rows rows = map (λ row. row.place) rows
