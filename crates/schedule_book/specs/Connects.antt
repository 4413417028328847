-- The connect times of places.
use Rattle.std.specs.Prelude.{◌≡◌, ℕ, Bool, List, find, Option, option_map}
use Rattle.std.specs.HashMap.{HashMap, get}
use Rattle.fare_law.specs.declared.names.Place.{Place}
use Rattle.fare_law.specs.declared.rows.PlaceRow.{PlaceRow}
use Rattle.fare_law.specs.Book.{same_place}

-- the least connect time of a place in minutes, where it has a row
abbrev pub connect_of : List PlaceRow → Place → Option ℕ
connect_of rows place = option_map (λ row. row.connect) (find (λ row. same_place place row.place) rows)

-- the map has the connect times of these rows
abbrev pub Connects : {S : Type 0} → (Place → Place → Bool) → List PlaceRow → HashMap Place ℕ S → Type 0
Connects eq rows connects = (place : Place) → get eq connects place ≡ connect_of rows place
