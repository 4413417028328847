-- No reason refuses the request of a made case where its places are known.
use Rattle.std.proofs.Common.{◌≡◌, ℕ, ℤ, pos, int_le, arith, true, List, [], ◌∷◌, map, None, refl, sym}
use Rattle.case_maker.specs.Names.{away, home, hub}
use Rattle.fare_law.specs.declared.rows.PlaceRow.{PlaceRow}
use Rattle.fare_law.specs.Book.{Book, same_place}
use Rattle.fare_law.specs.Lists.{Matched}
use Rattle.fare_law.specs.Requests.{in_century, is_known, judged, known_places}
use Rattle.law_lemmas.proofs.Names.{place_whole, places_told}
use Rattle.law_lemmas.proofs.Tests.{or_true}
use Rattle.std.proofs.lemmas.Int.{ints}
use Rattle.jiff_core.specs.Calendar.{days_from_civil}
use Rattle.market_time.specs.Dates.{IsInCentury}
use Rattle.case_maker.specs.Lines.{all_below, place_names}
use Rattle.case_maker.specs.Sections.{IsPlaceOf}
use Rattle.case_maker.proofs.RequestRead.{century, made_request}

-- the first two places of a made case are known
both_known : (rows : List PlaceRow) (names : List (List ℕ)) → Matched IsPlaceOf (home ∷ away ∷ names) rows
    → (is_known (map (λ row. row.place) rows) (record { 0 = home }) ≡ true) × (is_known (map (λ row. row.place) rows) (record { 0 = away }) ≡ true)
both_known [] names m = absurd m
both_known (one ∷ []) names m = absurd m.1
both_known (one ∷ two ∷ rows) names m =
    let first : same_place (record { 0 = home }) one.place ≡ true = (places_told (record { 0 = home }) one.place).1 (place_whole (record { 0 = home }) one.place (sym m.0)) in
    let second : same_place (record { 0 = away }) two.place ≡ true = (places_told (record { 0 = away }) two.place).1 (place_whole (record { 0 = away }) two.place (sym m.1.0)) in
    (rw first refl, rw second (or_true (same_place (record { 0 = away }) one.place)))

in_it : (day : ℤ) → IsInCentury day → in_century day ≡ true
in_it day h =
    let low : int_le (pos 10957) day ≡ true = (let k = h.0 in grind (arith, ints)) in
    let high : int_le day (pos 47481) ≡ true = (let k = h.1 in grind (arith, ints)) in
    rw (low, high) refl

pub request_right : (size : ℕ) (book : Book) → Matched IsPlaceOf (place_names size) book.timetable.places → judged (known_places book) made_request ≡ None
request_right size book m =
    let known = both_known book.timetable.places (all_below size (λ i. hub i ∷ [])) m in
    rw (
      in_it (days_from_civil (pos 2031) 2 1) (century 2 1 (omega arith, omega arith) (omega arith, omega arith)),
      in_it (days_from_civil (pos 2031) 3 3) (century 3 3 (omega arith, omega arith) (omega arith, omega arith)),
      in_it (days_from_civil (pos 2031) 3 10) (century 3 10 (omega arith, omega arith) (omega arith, omega arith)),
      known.0,
      known.1,
    ) refl
