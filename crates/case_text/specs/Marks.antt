-- The marks of a flight row that aren't numbers, names or times: day shifts, weekdays.
use Rattle.std.specs.Prelude.{ℕ, ℤ, pos, neg_ℤ, ◌==◌, ◌&&◌, ◌+◌, ◌-◌, ◌^◌, nat_le, nat_lt, List, [], ◌∷◌, length, Option, Some, None, option_map, if◌then◌else◌, bytes_eq, codes}

-- the day shift of an arrival: -1, 0, 1 or 2
abbrev pub shift_of : List ℕ → Option ℤ
shift_of text =
    if bytes_eq text (codes "-1") then Some (neg_ℤ (pos 1)) else
    if bytes_eq text (codes "0") then Some (pos 0) else
    if bytes_eq text (codes "1") then Some (pos 1) else
    if bytes_eq text (codes "2") then Some (pos 2) else None

-- the sum of the bits of weekdays that follow a weekday: digits to 7, each greater than the one before
abbrev pub weekdays_after : ℕ → List ℕ → Option ℕ
weekdays_after before [] = Some 0
weekdays_after before (c ∷ cs) = if nat_lt (before + 48) c && nat_le c 55 then option_map (λ days. 2 ^ (c - 49) + days) (weekdays_after (c - 48) cs) else None

-- weekdays by their digits, ascending from 1 for Monday, at least one: bit d - 1 for weekday d
abbrev pub weekdays_of : List ℕ → Option ℕ
weekdays_of text = if length text == 0 then None else weekdays_after 0 text
