-- The tables of a made case: its places, its flights and their seats.
use Rattle.std.specs.Prelude.{ℕ, ◌+◌, List, [], ◌∷◌, ◌++◌, codes, decimal}
use Rattle.std.specs.List.{join_with_byte}
use Rattle.market_time.specs.Clock.{time_text}
use Rattle.case_maker.specs.declared.legs.Leg.{Leg}
use Rattle.case_maker.specs.Drawing.{Making, said, drawing, ◌before◌, each_below}
use Rattle.case_maker.specs.Names.{home, away, hub, out_date, back_date}

-- the columns of a row, with commas between
abbrev pub row : List (List ℕ) → Making
row columns = said (join_with_byte 44 columns ++ codes "\n")

-- home, away and the hubs
abbrev pub places : ℕ → Making
places size =
    said (codes "#places\nAAA,45\nBBB,45\n")
    before each_below size (λ i. row (hub i ∷ codes "45" ∷ []))

-- a flight on one day by UTC, from one minute of the day to another
abbrev pub flight_row : Leg → ℕ → ℕ → Making
flight_row leg departs arrives =
    row (codes "MX" ∷ decimal leg.number ∷ leg.from ∷ leg.to ∷ time_text departs ∷ codes "+00:00"
    ∷ time_text arrives ∷ codes "+00:00" ∷ codes "0" ∷ leg.date ∷ leg.date ∷ codes "1" ∷ [])

-- a flight that departs in the two hours from this minute on and takes up to an hour more than the shortest
abbrev pub drawn_flight : Leg → ℕ → ℕ → Making
drawn_flight leg earliest shortest =
    drawing 120 (λ late. drawing 60 (λ long.
    flight_row leg (earliest + late) ((earliest + late) + (shortest + long))))

-- the flights by a hub: out to it and on from it, and a week later back to it and on from it
abbrev pub hub_flights : ℕ → Making
hub_flights i =
    drawn_flight (record { number = 1000 + i; from = home; to = hub i; date = out_date }) 360 60
    before drawn_flight (record { number = 2000 + i; from = hub i; to = away; date = out_date }) 720 240
    before drawn_flight (record { number = 3000 + i; from = away; to = hub i; date = back_date }) 360 60
    before drawn_flight (record { number = 4000 + i; from = hub i; to = home; date = back_date }) 720 240

-- the two flights without a stop, and those by each hub
abbrev pub flights : ℕ → Making
flights size =
    said (codes "#flights\n")
    before flight_row (record { number = 1; from = home; to = away; date = out_date }) 540 780
    before flight_row (record { number = 2; from = away; to = home; date = back_date }) 540 780
    before each_below size hub_flights

-- nine seats in Y, and so many in M and Q
abbrev pub seats_word : ℕ → ℕ → List ℕ
seats_word a b = 89 ∷ 57 ∷ 77 ∷ (48 + a) ∷ 81 ∷ (48 + b) ∷ []

-- a flight's seats on every day, of which those in M and Q are drawn
abbrev pub seat_row : ℕ → List ℕ → Making
seat_row number from =
    drawing 10 (λ a. drawing 10 (λ b.
    row (codes "MX" ∷ decimal number ∷ from ∷ codes "*" ∷ seats_word a b ∷ [])))

abbrev pub hub_seats : ℕ → Making
hub_seats i =
    seat_row (1000 + i) home before seat_row (2000 + i) (hub i)
    before seat_row (3000 + i) away before seat_row (4000 + i) (hub i)

-- a row for each flight, in their order
abbrev pub seats : ℕ → Making
seats size =
    said (codes "#seats\n")
    before seat_row 1 home before seat_row 2 away before each_below size hub_seats
