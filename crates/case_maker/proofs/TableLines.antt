-- The lines of the tables of a made case: of its places, its flights and their seats.
use Rattle.std.proofs.Common.{◌≡◌, ◌≤◌, ◌<◌, ◌+◌, ℕ, List, [], ◌∷◌, ◌++◌, codes, refl, ap, arith}
use Rattle.std.specs.List.{join_with_byte}
use Rattle.case_maker.specs.Drawing.{Making, drawing, each_below, said, ◌before◌}
use Rattle.case_maker.specs.Names.{away, back_date, home, hub, out_date}
use Rattle.case_maker.specs.Tables.{drawn_flight, flight_row, flights, hub_flights, hub_seats, places, row, seat_row, seats}
use Rattle.case_maker.specs.Lines.{HasLines, IsFlightLine, IsPlaceLine, IsSeatLine, Leg, all_below, flight_columns, hub_legs, legs, place_columns, place_names, seat_columns}
use Rattle.case_maker.proofs.Drawn.{Always, drawn_always, each_lines, one_line, then_always, then_lines}

-- A section: its header, and a line for each of these.
pub record IsSection {X : Type 0} (header : List ℕ) (Is : X → List ℕ → Type 0) (xs : List X) (text : List ℕ) : Type 0 where
  pub body : List ℕ
  pub has : HasLines Is xs body
  pub text_is : text ≡ (header ++ 10 ∷ []) ++ body

headed : {X : Type 0} (header : List ℕ) (Is : X → List ℕ → Type 0) (xs : List X) (make : Making) → Always (HasLines Is xs) make → Always (IsSection header Is xs) (said (header ++ 10 ∷ []) before make)
headed header Is xs make h =
    then_always (λ t. t ≡ header ++ 10 ∷ []) (HasLines Is xs) (IsSection header Is xs) (said (header ++ 10 ∷ [])) make (λ s t e k. record { body = t; has = k; text_is = ap (λ u. u ++ t) e }) (λ x. refl) h

-- ---- places

place_lines : (name : List ℕ) → Always (HasLines IsPlaceLine (name ∷ [])) (row (place_columns name))
place_lines name x = one_line IsPlaceLine name (join_with_byte 44 (place_columns name)) refl

abbrev hub_names : ℕ → List (List ℕ)
hub_names size = all_below size (λ i. hub i ∷ [])

pub places_section : (size : ℕ) → Always (IsSection (codes "#places") IsPlaceLine (place_names size)) (places size)
places_section size =
    then_always (λ t. t ≡ codes "#places\nAAA,45\nBBB,45\n") (HasLines IsPlaceLine (hub_names size)) (IsSection (codes "#places") IsPlaceLine (place_names size))
    (said (codes "#places\nAAA,45\nBBB,45\n")) (each_below size (λ i. row (place_columns (hub i)))) both (λ x. refl)
    (each_lines IsPlaceLine (λ i. hub i ∷ []) (λ i. row (place_columns (hub i))) size (λ i h. place_lines (hub i)))
  where
    both : (s t : List ℕ) → s ≡ codes "#places\nAAA,45\nBBB,45\n" → HasLines IsPlaceLine (hub_names size) t → IsSection (codes "#places") IsPlaceLine (place_names size) (s ++ t)
    both s t e h = record { body = codes "AAA,45\nBBB,45\n" ++ t; has = record { lines = codes "AAA,45" ∷ codes "BBB,45" ∷ h.lines; each = (refl, (refl, h.each)); text_is = ap (λ u. codes "AAA,45\nBBB,45\n" ++ u) h.text_is }; text_is = ap (λ u. u ++ t) e }

-- ---- flights

-- the row of a leg, and one whose times are drawn
abbrev row_for : Leg → ℕ → ℕ → Making
row_for leg departs arrives = flight_row (record { number = leg.number; from = leg.from; to = leg.to; date = leg.date }) departs arrives

abbrev drawn_for : Leg → ℕ → ℕ → Making
drawn_for leg earliest shortest = drawn_flight (record { number = leg.number; from = leg.from; to = leg.to; date = leg.date }) earliest shortest

flight_lines : (leg : Leg) (departs arrives : ℕ) → departs < arrives → arrives < 1440 → Always (HasLines IsFlightLine (leg ∷ [])) (row_for leg departs arrives)
flight_lines leg departs arrives early same x =
    one_line IsFlightLine leg (join_with_byte 44 (flight_columns leg departs arrives)) (record { departs = departs; arrives = arrives; in_time = early; same_day = same; line_is = refl })

abbrev flown : Leg → ℕ → ℕ → ℕ → ℕ → Making
flown leg earliest shortest late long = row_for leg (earliest + late) ((earliest + late) + (shortest + long))

drawn_lines : (leg : Leg) (earliest shortest : ℕ) → earliest ≤ 720 → 0 < shortest → shortest ≤ 240 → Always (HasLines IsFlightLine (leg ∷ [])) (drawn_for leg earliest shortest)
drawn_lines leg earliest shortest early some short =
    drawn_always (HasLines IsFlightLine (leg ∷ [])) 120 (λ late. drawing 60 (flown leg earliest shortest late)) (omega arith) (λ late few.
    drawn_always (HasLines IsFlightLine (leg ∷ [])) 60 (flown leg earliest shortest late) (omega arith) (λ long little.
    flight_lines leg (earliest + late) ((earliest + late) + (shortest + long)) (omega (arith, some)) (omega (arith, early, short, few, little))))

abbrev leg_of : ℕ → List ℕ → List ℕ → List ℕ → Leg
leg_of number from to date = record { number = number; from = from; to = to; date = date }

-- a leg before its hub, and one after it
abbrev near_by : ℕ → List ℕ → List ℕ → List ℕ → Making
near_by number from to date = drawn_for (leg_of number from to date) 360 60

abbrev far_by : ℕ → List ℕ → List ℕ → List ℕ → Making
far_by number from to date = drawn_for (leg_of number from to date) 720 240

near : (number : ℕ) (from to date : List ℕ) → Always (HasLines IsFlightLine (leg_of number from to date ∷ [])) (drawn_for (leg_of number from to date) 360 60)
near number from to date = drawn_lines (leg_of number from to date) 360 60 (omega arith) (omega arith) (omega arith)

far : (number : ℕ) (from to date : List ℕ) → Always (HasLines IsFlightLine (leg_of number from to date ∷ [])) (drawn_for (leg_of number from to date) 720 240)
far number from to date = drawn_lines (leg_of number from to date) 720 240 (omega arith) (omega arith) (omega arith)

hub_flight_lines : (i : ℕ) → Always (HasLines IsFlightLine (hub_legs i)) (hub_flights i)
hub_flight_lines i =
    then_lines IsFlightLine (leg_of (1000 + i) home (hub i) out_date ∷ []) _ (near_by (1000 + i) home (hub i) out_date) (far_by (2000 + i) (hub i) away out_date before near_by (3000 + i) away (hub i) back_date before far_by (4000 + i) (hub i) home back_date) (near (1000 + i) home (hub i) out_date)
    (then_lines IsFlightLine (leg_of (2000 + i) (hub i) away out_date ∷ []) _ (far_by (2000 + i) (hub i) away out_date) (near_by (3000 + i) away (hub i) back_date before far_by (4000 + i) (hub i) home back_date) (far (2000 + i) (hub i) away out_date)
    (then_lines IsFlightLine (leg_of (3000 + i) away (hub i) back_date ∷ []) (leg_of (4000 + i) (hub i) home back_date ∷ []) (near_by (3000 + i) away (hub i) back_date) (far_by (4000 + i) (hub i) home back_date) (near (3000 + i) away (hub i) back_date)
    (far (4000 + i) (hub i) home back_date)))

direct : (number : ℕ) (from to date : List ℕ) → Always (HasLines IsFlightLine (leg_of number from to date ∷ [])) (row_for (leg_of number from to date) 540 780)
direct number from to date = flight_lines (leg_of number from to date) 540 780 (omega arith) (omega arith)

pub flights_section : (size : ℕ) → Always (IsSection (codes "#flights") IsFlightLine (legs size)) (flights size)
flights_section size =
    headed (codes "#flights") IsFlightLine (legs size) (row_for (leg_of 1 home away out_date) 540 780 before row_for (leg_of 2 away home back_date) 540 780 before each_below size hub_flights)
    (then_lines IsFlightLine (leg_of 1 home away out_date ∷ []) _ (row_for (leg_of 1 home away out_date) 540 780) (row_for (leg_of 2 away home back_date) 540 780 before each_below size hub_flights) (direct 1 home away out_date)
    (then_lines IsFlightLine (leg_of 2 away home back_date ∷ []) (all_below size hub_legs) (row_for (leg_of 2 away home back_date) 540 780) (each_below size hub_flights) (direct 2 away home back_date)
    (each_lines IsFlightLine hub_legs hub_flights size (λ i h. hub_flight_lines i))))

-- ---- seats

abbrev seated : ℕ → List ℕ → ℕ → ℕ → Making
seated number from a b = row (seat_columns (leg_of number from [] []) a b)

seat_lines : (leg : Leg) → Always (HasLines IsSeatLine (leg ∷ [])) (seat_row leg.number leg.from)
seat_lines leg =
    drawn_always (HasLines IsSeatLine (leg ∷ [])) 10 (λ a. drawing 10 (seated leg.number leg.from a)) (omega arith) (λ a few.
    drawn_always (HasLines IsSeatLine (leg ∷ [])) 10 (seated leg.number leg.from a) (omega arith) (λ b little x.
    one_line IsSeatLine leg (join_with_byte 44 (seat_columns leg a b)) (record { in_m = a; in_q = b; few_m = omega (arith, few); few_q = omega (arith, little); line_is = refl })))

hub_seat_lines : (i : ℕ) → Always (HasLines IsSeatLine (hub_legs i)) (hub_seats i)
hub_seat_lines i =
    then_lines IsSeatLine (leg_of (1000 + i) home (hub i) out_date ∷ []) _ (seat_row (1000 + i) home) (seat_row (2000 + i) (hub i) before seat_row (3000 + i) away before seat_row (4000 + i) (hub i)) (seat_lines (leg_of (1000 + i) home (hub i) out_date))
    (then_lines IsSeatLine (leg_of (2000 + i) (hub i) away out_date ∷ []) _ (seat_row (2000 + i) (hub i)) (seat_row (3000 + i) away before seat_row (4000 + i) (hub i)) (seat_lines (leg_of (2000 + i) (hub i) away out_date))
    (then_lines IsSeatLine (leg_of (3000 + i) away (hub i) back_date ∷ []) (leg_of (4000 + i) (hub i) home back_date ∷ []) (seat_row (3000 + i) away) (seat_row (4000 + i) (hub i)) (seat_lines (leg_of (3000 + i) away (hub i) back_date))
    (seat_lines (leg_of (4000 + i) (hub i) home back_date))))

pub seats_section : (size : ℕ) → Always (IsSection (codes "#seats") IsSeatLine (legs size)) (seats size)
seats_section size =
    headed (codes "#seats") IsSeatLine (legs size) (seat_row 1 home before seat_row 2 away before each_below size hub_seats)
    (then_lines IsSeatLine (leg_of 1 home away out_date ∷ []) _ (seat_row 1 home) (seat_row 2 away before each_below size hub_seats) (seat_lines (leg_of 1 home away out_date))
    (then_lines IsSeatLine (leg_of 2 away home back_date ∷ []) (all_below size hub_legs) (seat_row 2 away) (each_below size hub_seats) (seat_lines (leg_of 2 away home back_date))
    (each_lines IsSeatLine hub_legs hub_seats size (λ i h. hub_seat_lines i))))
