-- The places that a book knows: those of its rows. Needed by the judgement of requests.
use Rattle.std.proofs.Common.{◌≡◌, true, false, Bool, ◌||◌, List, [], ◌∷◌, is_some, if◌then◌else◌, Option, Some, refl, option_map}
use Rattle.fare_law.specs.declared.names.Place.{Place}
use Rattle.fare_law.specs.declared.rows.PlaceRow.{PlaceRow}
use Rattle.fare_law.specs.Book.{same_place}
use Rattle.fare_law.specs.Limits.{IsPlace, IsPlaceRow}
use Rattle.fare_law.specs.Lists.{Each}
use Rattle.fare_law.specs.Requests.{is_known}
use Rattle.schedule_book.specs.Connects.{connect_of}
use Rattle.search_core.specs.KnownPlaces.{known_rows}

pub places_formed : (rows : List PlaceRow) → Each IsPlaceRow rows → Each IsPlace (known_rows rows)
places_formed [] h = tt
places_formed (row ∷ rows) h = (h.0.place, places_formed rows h.1)

connect_found : (test : Bool) (row : PlaceRow) (rest : Option PlaceRow) (known : Bool) → is_some (option_map (λ r. r.connect) rest) ≡ known → is_some (option_map (λ r. r.connect) (if test then Some row else rest)) ≡ (test || known)
connect_found true row rest known e = refl
connect_found false row rest known e = e

pub connect_known : (rows : List PlaceRow) (p : Place) → is_some (connect_of rows p) ≡ is_known (known_rows rows) p
connect_known [] p = refl
connect_known (row ∷ rows) p = connect_found (same_place p row.place) row _ _ (connect_known rows p)
