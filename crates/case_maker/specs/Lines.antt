-- The lines of a made case, by what they are of, whatever was drawn for them.
use Rattle.std.specs.Prelude.{◌≡◌, ◌<◌, ◌≤◌, ℕ, zero, suc, ◌+◌, List, [], ◌∷◌, ◌++◌, codes, decimal}
use Rattle.std.specs.List.{flat_map, join_with_byte}
use Rattle.case_maker.specs.Names.{away, back_date, home, hub, out_date}
use Rattle.case_maker.specs.Tables.{seats_word}
use Rattle.fare_law.specs.Lists.{Matched}
use Rattle.market_time.specs.Clock.{time_text}

-- A flight on its one day, but for its times.
pub record Leg : Type 0 where
  pub number : ℕ
  pub from : List ℕ
  pub to : List ℕ
  pub date : List ℕ

-- the text of these lines, each with LF after it
abbrev pub lined : List (List ℕ) → List ℕ
lined ls = flat_map (λ line. line ++ 10 ∷ []) ls

-- what is listed for each number below n, in order
abbrev pub all_below : {X : Type 0} → ℕ → (ℕ → List X) → List X
all_below zero f = []
all_below (suc n) f = all_below n f ++ f n

-- the names of the places
abbrev pub place_names : ℕ → List (List ℕ)
place_names size = home ∷ away ∷ all_below size (λ i. hub i ∷ [])

-- the flights by a hub: out to it and on from it, back to it and on from it
abbrev pub hub_legs : ℕ → List Leg
hub_legs i =
    record { number = 1000 + i; from = home; to = hub i; date = out_date }
    ∷ record { number = 2000 + i; from = hub i; to = away; date = out_date }
    ∷ record { number = 3000 + i; from = away; to = hub i; date = back_date }
    ∷ record { number = 4000 + i; from = hub i; to = home; date = back_date } ∷ []

-- the flights, each on its one day
abbrev pub legs : ℕ → List Leg
legs size =
    record { number = 1; from = home; to = away; date = out_date }
    ∷ record { number = 2; from = away; to = home; date = back_date } ∷ all_below size hub_legs

-- the columns of a place, of a flight from one minute to another, and of a flight's seats
abbrev pub place_columns : List ℕ → List (List ℕ)
place_columns name = name ∷ codes "45" ∷ []

abbrev pub flight_columns : Leg → ℕ → ℕ → List (List ℕ)
flight_columns leg departs arrives =
    codes "MX" ∷ decimal leg.number ∷ leg.from ∷ leg.to ∷ time_text departs ∷ codes "+00:00" ∷ time_text arrives
    ∷ codes "+00:00" ∷ codes "0" ∷ leg.date ∷ leg.date ∷ codes "1" ∷ []

abbrev pub seat_columns : Leg → ℕ → ℕ → List (List ℕ)
seat_columns leg a b = codes "MX" ∷ decimal leg.number ∷ leg.from ∷ codes "*" ∷ seats_word a b ∷ []

-- the line of a place
abbrev pub IsPlaceLine : List ℕ → List ℕ → Type 0
IsPlaceLine name line = line ≡ join_with_byte 44 (place_columns name)

-- the line of a flight that arrives on its day, after it departed
pub record IsFlightLine (leg : Leg) (line : List ℕ) : Type 0 where
  pub departs : ℕ
  pub arrives : ℕ
  pub in_time : departs < arrives
  pub same_day : arrives < 1440
  pub line_is : line ≡ join_with_byte 44 (flight_columns leg departs arrives)

-- the line of a flight's seats, which are at most nine in each class
pub record IsSeatLine (leg : Leg) (line : List ℕ) : Type 0 where
  pub in_m : ℕ
  pub in_q : ℕ
  pub few_m : in_m ≤ 9
  pub few_q : in_q ≤ 9
  pub line_is : line ≡ join_with_byte 44 (seat_columns leg in_m in_q)

-- a text of lines, one for each of these in turn
pub record HasLines {X : Type 0} (Is : X → List ℕ → Type 0) (xs : List X) (text : List ℕ) : Type 0 where
  pub lines : List (List ℕ)
  pub each : Matched Is xs lines
  pub text_is : text ≡ lined lines
