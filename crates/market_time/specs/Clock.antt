-- Times of day and offsets from UTC as text, in minutes.
use Rattle.std.specs.Prelude.{◌≡◌, ◌⊎◌, ◌<◌, ◌≤◌, ℕ, ℤ, pos, neg_ℤ, Bool, ◌+◌, ◌*◌, ◌/◌, ◌%◌, ◌&&◌, ◌||◌, ◌==◌, nat_lt, nat_le, if◌then◌else◌, List, ◌∷◌, ◌++◌, length, slice_index, Option, Some, None}
use Rattle.market_time.specs.Digits.{has_two_digits, two_digits, digits_of}

-- five bytes HH:MM from this place on: digits with a colon between, and minutes below 60
abbrev pub has_clock_form : List ℕ → ℕ → Bool
has_clock_form text at =
    has_two_digits text at && (slice_index text (at + 2) == 58)
    && has_two_digits text (at + 3) && nat_lt (two_digits text (at + 3)) 60

-- the minutes that such bytes come to
abbrev pub clock_minutes : List ℕ → ℕ → ℕ
clock_minutes text at = 60 * two_digits text at + two_digits text (at + 3)

-- the minute of the day that a text spells, if it spells one: HH:MM from 00:00 to 23:59
unfoldable pub minute_spelled : List ℕ → Option ℕ
minute_spelled text =
    if (length text == 5) && has_clock_form text 0 && nat_lt (two_digits text 0) 24
    then Some (clock_minutes text 0) else None

-- the offset in minutes that a text spells, if it spells one: a sign and HH:MM, of at most 14 hours
unfoldable pub offset_spelled : List ℕ → Option ℤ
offset_spelled text =
    if (length text == 6) && ((slice_index text 0 == 43) || (slice_index text 0 == 45))
    && has_clock_form text 1 && nat_le (clock_minutes text 1) (14 * 60)
    then Some (if slice_index text 0 == 45 then neg_ℤ (pos (clock_minutes text 1)) else pos (clock_minutes text 1))
    else None

-- minutes written as HH:MM
abbrev pub time_text : ℕ → List ℕ
time_text minutes = digits_of (minutes / 60) ++ (58 ∷ digits_of (minutes % 60))

-- the text is a minute of the day, written so
abbrev pub WritesMinute : List ℕ → ℕ → Type 0
WritesMinute text minute = (minute < 24 * 60) × (text ≡ time_text minute)

-- the text is a sign and at most 14 hours, written so, and the offset has this sign
pub record WritesOffset (text : List ℕ) (offset : ℤ) : Type 0 where
  pub minutes : ℕ
  pub within : minutes ≤ 14 * 60
  pub signed : ((text ≡ 43 ∷ time_text minutes) × (offset ≡ pos minutes))
      ⊎ ((text ≡ 45 ∷ time_text minutes) × (offset ≡ neg_ℤ (pos minutes)))
