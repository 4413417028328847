-- A made case of at most a hundred hubs is short.
use Rattle.std.proofs.Common.{◌≡◌, ◌≤◌, ◌<◌, ◌+◌, ◌*◌, ◌^◌, ℕ, suc, List, [], ◌∷◌, ◌++◌, codes, decimal, length, slice_index, refl, sym, ap, subst, arith}
use Rattle.std.proofs.lemmas.Fmt.{length-decimal-le}
use Rattle.std.specs.List.{concat, join_with_byte}
use Rattle.market_time.specs.Clock.{time_text}
use Rattle.case_maker.specs.declared.fares.MadeFare.{MadeFare}
use Rattle.case_maker.specs.declared.legs.Leg.{Leg}
use Rattle.case_maker.specs.Drawing.{Making, drawing, each_below, said, ◌before◌}
use Rattle.case_maker.specs.Filing.{fare_action, filing, free_fare, hub_fares, rules, short_fare, way_fare}
use Rattle.case_maker.specs.MadeCase.{made_case, request, sections}
use Rattle.case_maker.specs.Names.{away, back_date, home, hub, numbered_basis, out_date}
use Rattle.case_maker.specs.Tables.{drawn_flight, flight_row, flights, hub_flights, hub_seats, places, row, seat_row, seats, seats_word}
use Rattle.case_maker.proofs.Lengths.{AtMost, Fits, concat_fits, drawn_fits, each_fits, is_long, room, row_fits, then_fits}

-- a number of at most so many digits
digits : (k n : ℕ) → 0 < k → n < 10 ^ k → n < 2 ^ 64 → Fits (decimal n) k
digits k n some few small = length-decimal-le k n some few small

four : (n : ℕ) → n < 10000 → Fits (decimal n) 4
four n h = digits 4 n (omega (arith)) (omega (arith, h)) (omega (arith, h))

five : (n : ℕ) → n < 100000 → Fits (decimal n) 5
five n h = digits 5 n (omega (arith)) (omega (arith, h)) (omega (arith, h))

-- ---- places
place_fits : (i : ℕ) → AtMost 8 (row (hub i ∷ codes "45" ∷ []))
place_fits i x = row_fits (hub i ∷ codes "45" ∷ []) (3 ∷ 2 ∷ []) (is_long (hub i) 3 refl, (is_long (codes "45") 2 refl, tt)) x

places_fit : (size : ℕ) → AtMost (22 + size * 8) (places size)
places_fit size =
    then_fits 22 (size * 8) (said (codes "#places\nAAA,45\nBBB,45\n")) (each_below size (λ i. row (hub i ∷ codes "45" ∷ [])))
    (λ x. is_long (codes "#places\nAAA,45\nBBB,45\n") 22 refl) (each_fits size 8 _ (λ i h. place_fits i))

-- ---- flights
-- its names and its number are short
abbrev IsShortLeg : Leg → Type 0
IsShortLeg leg = (leg.number < 10000) × Fits leg.from 3 × Fits leg.to 3 × Fits leg.date 10

abbrev columns : List ℕ
columns = 2 ∷ 4 ∷ 3 ∷ 3 ∷ 5 ∷ 6 ∷ 5 ∷ 6 ∷ 1 ∷ 10 ∷ 10 ∷ 1 ∷ []

flight_fits : (leg : Leg) (departs arrives : ℕ) → IsShortLeg leg → AtMost 69 (flight_row leg departs arrives)
flight_fits leg departs arrives (number, from, to, date) x =
    row_fits
    (codes "MX" ∷ decimal leg.number ∷ leg.from ∷ leg.to ∷ time_text departs ∷ codes "+00:00" ∷ time_text arrives ∷ codes "+00:00" ∷ codes "0" ∷ leg.date ∷ leg.date ∷ codes "1" ∷ []) columns
    (is_long (codes "MX") 2 refl, (four leg.number number, (from, (to, (is_long (time_text departs) 5 refl, (is_long (codes "+00:00") 6 refl, (is_long (time_text arrives) 5 refl, (is_long (codes "+00:00") 6 refl, (is_long (codes "0") 1 refl, (date, (date, (is_long (codes "1") 1 refl, tt))))))))))))
    x

abbrev flown : Leg → ℕ → ℕ → ℕ → ℕ → Making
flown leg earliest shortest late long = flight_row leg (earliest + late) ((earliest + late) + (shortest + long))

drawn_flight_fits : (leg : Leg) (earliest shortest : ℕ) → IsShortLeg leg → AtMost 69 (drawn_flight leg earliest shortest)
drawn_flight_fits leg earliest shortest short =
    drawn_fits 120 69 (λ late. drawing 60 (flown leg earliest shortest late)) (omega (arith)) (λ late _. drawn_fits 60 69 (flown leg earliest shortest late) (omega (arith)) (λ long _. flight_fits leg (earliest + late) ((earliest + late) + (shortest + long)) short))

-- the leg of this number, from there to here on this day
abbrev leg_of : ℕ → List ℕ → List ℕ → List ℕ → Leg
leg_of number from to date = record { number = number; from = from; to = to; date = date }

short_leg : (number : ℕ) (from to date : List ℕ) → number < 10000 → length from ≡ 3 → length to ≡ 3 → length date ≡ 10 → IsShortLeg (leg_of number from to date)
short_leg number from to date few f t d = (few, is_long from 3 f, is_long to 3 t, is_long date 10 d)

hub_flight_fits : (number : ℕ) (from to date : List ℕ) (earliest shortest : ℕ) → number < 10000 → length from ≡ 3 → length to ≡ 3 → length date ≡ 10 → AtMost 69 (drawn_flight (leg_of number from to date) earliest shortest)
hub_flight_fits number from to date earliest shortest few f t d = drawn_flight_fits (leg_of number from to date) earliest shortest (short_leg number from to date few f t d)

direct_fits : (number : ℕ) (from to date : List ℕ) → number < 10000 → length from ≡ 3 → length to ≡ 3 → length date ≡ 10 → AtMost 69 (flight_row (leg_of number from to date) 540 780)
direct_fits number from to date few f t d = flight_fits (leg_of number from to date) 540 780 (short_leg number from to date few f t d)

abbrev second : ℕ → Making
second i = drawn_flight (leg_of (2000 + i) (hub i) away out_date) 720 240

abbrev third : ℕ → Making
third i = drawn_flight (leg_of (3000 + i) away (hub i) back_date) 360 60

abbrev fourth : ℕ → Making
fourth i = drawn_flight (leg_of (4000 + i) (hub i) home back_date) 720 240

hub_flights_fit : (i : ℕ) → i < 100 → AtMost 276 (hub_flights i)
hub_flights_fit i h =
    then_fits 69 207 (drawn_flight (leg_of (1000 + i) home (hub i) out_date) 360 60) (second i before third i before fourth i) (hub_flight_fits (1000 + i) home (hub i) out_date 360 60 (omega (arith, h)) refl refl refl)
    (then_fits 69 138 (second i) (third i before fourth i) (hub_flight_fits (2000 + i) (hub i) away out_date 720 240 (omega (arith, h)) refl refl refl)
    (then_fits 69 69 (third i) (fourth i) (hub_flight_fits (3000 + i) away (hub i) back_date 360 60 (omega (arith, h)) refl refl refl)
    (hub_flight_fits (4000 + i) (hub i) home back_date 720 240 (omega (arith, h)) refl refl refl)))

flights_fit : (size : ℕ) → size ≤ 100 → AtMost (9 + (69 + (69 + size * 276))) (flights size)
flights_fit size small =
    then_fits 9 (69 + (69 + size * 276)) (said (codes "#flights\n")) (flight_row (leg_of 1 home away out_date) 540 780 before flight_row (leg_of 2 away home back_date) 540 780 before each_below size hub_flights) (λ x. is_long (codes "#flights\n") 9 refl)
    (then_fits 69 (69 + size * 276) (flight_row (leg_of 1 home away out_date) 540 780) (flight_row (leg_of 2 away home back_date) 540 780 before each_below size hub_flights) (direct_fits 1 home away out_date (omega (arith)) refl refl refl)
    (then_fits 69 (size * 276) (flight_row (leg_of 2 away home back_date) 540 780) (each_below size hub_flights) (direct_fits 2 away home back_date (omega (arith)) refl refl refl)
    (each_fits size 276 hub_flights (λ i h. hub_flights_fit i (omega (arith, h, small))))))

-- ---- seats
abbrev seated : ℕ → List ℕ → ℕ → ℕ → Making
seated number from a b = row (codes "MX" ∷ decimal number ∷ from ∷ codes "*" ∷ seats_word a b ∷ [])

seat_row_fits : (number : ℕ) (from : List ℕ) → number < 10000 → length from ≡ 3 → AtMost 22 (seat_row number from)
seat_row_fits number from few three =
    drawn_fits 10 22 (λ a. drawing 10 (seated number from a)) (omega (arith)) (λ a _. drawn_fits 10 22 (seated number from a) (omega (arith)) (λ b _ x.
    row_fits (codes "MX" ∷ decimal number ∷ from ∷ codes "*" ∷ seats_word a b ∷ []) (2 ∷ 4 ∷ 3 ∷ 1 ∷ 6 ∷ [])
    (is_long (codes "MX") 2 refl, (four number few, (is_long from 3 three, (is_long (codes "*") 1 refl, (is_long (seats_word a b) 6 refl, tt))))) x))

hub_seats_fit : (i : ℕ) → i < 100 → AtMost 88 (hub_seats i)
hub_seats_fit i h =
    then_fits 22 66 (seat_row (1000 + i) home) (seat_row (2000 + i) (hub i) before seat_row (3000 + i) away before seat_row (4000 + i) (hub i)) (seat_row_fits (1000 + i) home (omega (arith, h)) refl)
    (then_fits 22 44 (seat_row (2000 + i) (hub i)) (seat_row (3000 + i) away before seat_row (4000 + i) (hub i)) (seat_row_fits (2000 + i) (hub i) (omega (arith, h)) refl)
    (then_fits 22 22 (seat_row (3000 + i) away) (seat_row (4000 + i) (hub i)) (seat_row_fits (3000 + i) away (omega (arith, h)) refl) (seat_row_fits (4000 + i) (hub i) (omega (arith, h)) refl)))

seats_fit : (size : ℕ) → size ≤ 100 → AtMost (7 + (22 + (22 + size * 88))) (seats size)
seats_fit size small =
    then_fits 7 (22 + (22 + size * 88)) (said (codes "#seats\n")) (seat_row 1 home before seat_row 2 away before each_below size hub_seats) (λ x. is_long (codes "#seats\n") 7 refl)
    (then_fits 22 (22 + size * 88) (seat_row 1 home) (seat_row 2 away before each_below size hub_seats) (seat_row_fits 1 home (omega (arith)) refl)
    (then_fits 22 (size * 88) (seat_row 2 away) (each_below size hub_seats) (seat_row_fits 2 away (omega (arith)) refl) (each_fits size 88 hub_seats (λ i h. hub_seats_fit i (omega (arith, h, small))))))

-- ---- the filing
-- its names and its numbers are short
pub record IsShortFare (fare : MadeFare) : Type 0 where
  pub amount : fare.amount < 100000
  pub basis : length fare.basis ≡ 4
  pub from : length fare.from ≡ 3
  pub rule : fare.rule < 10
  pub to : length fare.to ≡ 3

fare_fits : (fare : MadeFare) → IsShortFare fare → AtMost 131 (said (fare_action fare))
fare_fits fare short x =
    concat_fits
    (codes ",{\"put_fare\":{\"amount\":" ∷ decimal fare.amount ∷ codes ",\"basis\":\"" ∷ fare.basis
    ∷ codes "\",\"carrier\":\"MX\",\"class\":\"" ∷ (fare.class ∷ []) ∷ codes "\",\"from\":\"" ∷ fare.from
    ∷ codes "\",\"kind\":\"" ∷ (fare.kind ∷ []) ∷ codes "\",\"rule\":" ∷ decimal fare.rule
    ∷ codes ",\"to\":\"" ∷ fare.to ∷ codes "\"}}" ∷ [])
    (23 ∷ 5 ∷ 10 ∷ 4 ∷ 26 ∷ 1 ∷ 10 ∷ 3 ∷ 10 ∷ 1 ∷ 9 ∷ 1 ∷ 7 ∷ 3 ∷ 3 ∷ [])
    (is_long (codes ",{\"put_fare\":{\"amount\":") 23 refl, (five fare.amount short.amount, (is_long (codes ",\"basis\":\"") 10 refl, (is_long fare.basis 4 short.basis, (is_long (codes "\",\"carrier\":\"MX\",\"class\":\"") 26 refl, (is_long (fare.class ∷ []) 1 refl, (is_long (codes "\",\"from\":\"") 10 refl, (is_long fare.from 3 short.from, (is_long (codes "\",\"kind\":\"") 10 refl, (is_long (fare.kind ∷ []) 1 refl, (is_long (codes "\",\"rule\":") 9 refl, (one_digit, (is_long (codes ",\"to\":\"") 7 refl, (is_long fare.to 3 short.to, (is_long (codes "\"}}") 3 refl, tt)))))))))))))))
  where
    one_digit : Fits (decimal fare.rule) 1
    one_digit = let h = short.rule in digits 1 fare.rule (omega (arith)) (omega (arith, h)) (omega (arith, h))

free_fare_fits : (from to basis : List ℕ) (amount : ℕ) → length from ≡ 3 → length to ≡ 3 → length basis ≡ 4 → amount < 100000 → AtMost 131 (free_fare from to basis amount)
free_fare_fits from to basis amount f t b few =
    fare_fits (record { from = from; to = to; basis = basis; class = 89; kind = 79; amount = amount; rule = 0 }) (record { amount = few; basis = b; from = f; rule = omega (arith); to = t })

abbrev fare_of : ℕ → ℕ → ℕ → ℕ → ℕ → MadeFare
fare_of j class kind amount rule = record { from = home; to = away; basis = numbered_basis j; class = slice_index (codes "YMQ") class; kind = slice_index (codes "ORS") kind; amount = 10000 + 2 * amount; rule = rule }

abbrev filed : ℕ → ℕ → ℕ → ℕ → ℕ → Making
filed j class kind amount rule = said (fare_action (fare_of j class kind amount rule))

way_fare_fits : (j : ℕ) → AtMost 131 (way_fare j)
way_fare_fits j =
    drawn_fits 3 131 (λ class. drawing 3 (λ kind. drawing 20000 (λ amount. drawing 5 (filed j class kind amount)))) (omega (arith))
    (λ class _. drawn_fits 3 131 (λ kind. drawing 20000 (λ amount. drawing 5 (filed j class kind amount))) (omega (arith))
    (λ kind _. drawn_fits 20000 131 (λ amount. drawing 5 (filed j class kind amount)) (omega (arith))
    (λ amount low. drawn_fits 5 131 (filed j class kind amount) (omega (arith))
    (λ rule small. fare_fits (fare_of j class kind amount rule) (record { amount = omega (arith, low); basis = refl; from = refl; rule = omega (arith, small); to = refl })))))

short_fare_fits : (from to : List ℕ) → length from ≡ 3 → length to ≡ 3 → AtMost 131 (short_fare from to)
short_fare_fits from to f t = drawn_fits 4000 131 (λ amount. free_fare from to (codes "V000") (4000 + 2 * amount)) (omega (arith)) (λ amount low. free_fare_fits from to (codes "V000") (4000 + 2 * amount) f t refl (omega (arith, low)))

hub_fares_fit : (i : ℕ) → AtMost 262 (hub_fares i)
hub_fares_fit i = then_fits 131 131 (short_fare home (hub i)) (short_fare (hub i) away) (short_fare_fits home (hub i) refl refl) (short_fare_fits (hub i) away refl refl)

abbrev hubs_filed : ℕ → Making
hubs_filed size = each_below size hub_fares before said (codes "]}\n")

abbrev home_filed : ℕ → Making
home_filed size = free_fare away home (codes "Z000") 30000 before hubs_filed size

abbrev ways_filed : ℕ → Making
ways_filed size = each_below (2 * size) way_fare before home_filed size

filing_fits : (size : ℕ) → AtMost (21 + (649 + ((2 * size) * 131 + (131 + (size * 262 + 3))))) (filing size)
filing_fits size =
    then_fits 21 (649 + ((2 * size) * 131 + (131 + (size * 262 + 3)))) (said (codes "#filings\n{\"actions\":[")) (rules before ways_filed size) (λ x. is_long (codes "#filings\n{\"actions\":[") 21 refl)
    (then_fits 649 ((2 * size) * 131 + (131 + (size * 262 + 3))) rules (ways_filed size) (λ x. is_long (rules x).text 649 refl)
    (then_fits ((2 * size) * 131) (131 + (size * 262 + 3)) (each_below (2 * size) way_fare) (home_filed size) (each_fits (2 * size) 131 way_fare (λ j h. way_fare_fits j))
    (then_fits 131 (size * 262 + 3) (free_fare away home (codes "Z000") 30000) (hubs_filed size) (free_fare_fits away home (codes "Z000") 30000 refl refl refl (omega (arith)))
    (then_fits (size * 262) 3 (each_below size hub_fares) (said (codes "]}\n")) (each_fits size 262 hub_fares (λ i h. hub_fares_fit i)) (λ x. is_long (codes "]}\n") 3 refl)))))

-- ---- the case
abbrev room_of : ℕ → ℕ
room_of size = (22 + size * 8) + ((9 + (69 + (69 + size * 276))) + ((7 + (22 + (22 + size * 88))) + ((21 + (649 + ((2 * size) * 131 + (131 + (size * 262 + 3))))) + 179)))

sections_fit : (size : ℕ) → size ≤ 100 → AtMost (room_of size) (sections size)
sections_fit size small =
    then_fits (22 + size * 8) _ (places size) (flights size before seats size before filing size before request) (places_fit size)
    (then_fits (9 + (69 + (69 + size * 276))) _ (flights size) (seats size before filing size before request) (flights_fit size small)
    (then_fits (7 + (22 + (22 + size * 88))) _ (seats size) (filing size before request) (seats_fit size small)
    (then_fits (21 + (649 + ((2 * size) * 131 + (131 + (size * 262 + 3))))) 179 (filing size) request (filing_fits size) (λ x. is_long (request x).text 179 refl))))

few : (size n : ℕ) → size ≤ 100 → n ≤ room_of size → n ≤ 1000000
few size n small h = omega (arith, small, h)

pub made_case_fits : (seed size : ℕ) → size ≤ 100 → length (made_case seed size) ≤ 1000000
unfolding made_case
made_case_fits seed size small = few size (length (sections size seed).text) small (sections_fit size small seed)
