-- What the texts of a seat row spell: its day, and its seats by class.
use Rattle.std.specs.Prelude.{ℕ, ℤ, Bool, false, ◌==◌, ◌&&◌, ◌||◌, ◌-◌, not, List, [], ◌∷◌, length, set, replicate, Option, Some, None, option_map, if◌then◌else◌, bytes_eq, codes}
use Rattle.std.specs.Char.{is_ascii_digit, is_ascii_uppercase}
use Rattle.market_time.specs.Dates.{day_spelled}

-- the day of a seat row: a date, or * for all days
abbrev pub seat_day_of : List ℕ → Option (Option ℤ)
seat_day_of text = if bytes_eq text (codes "*") then Some None else option_map Some (day_spelled text)

-- whether a class letter comes among these pairs
abbrev pub names_class : ℕ → List ℕ → Bool
names_class letter [] = false
names_class letter (c ∷ []) = false
names_class letter (c ∷ d ∷ rest) = (c == letter) || names_class letter rest

-- the seats that pairs of a class letter and a digit name, no letter twice; a class that isn't named has 0
abbrev pub seats_in : List ℕ → Option (List ℕ)
seats_in [] = Some (replicate 32 0)
seats_in (c ∷ []) = None
seats_in (c ∷ d ∷ rest) =
    if is_ascii_uppercase c && is_ascii_digit d && not (names_class c rest) then option_map (λ seats. set seats (c - 65) (d - 48)) (seats_in rest) else None

-- the seats of a row: at least one pair
abbrev pub seats_of : List ℕ → Option (List ℕ)
seats_of text = if length text == 0 then None else seats_in text
