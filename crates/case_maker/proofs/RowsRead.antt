-- The lines of a made case's tables are read as rows of its places, its flights and their seats.
use Rattle.std.proofs.Common.{◌≡◌, ◌≤◌, ◌<◌, ◌+◌, ◌-◌, ◌*◌, ◌^◌, ◌&&◌, ◌∙◌, ℕ, pos, ℤ, true, cond, not, List, [], ◌∷◌, length, get_or, codes, decimal, Some, None, Ok, option_and_then, refl, ap, arith, nat_le, ne_eqb}
use Rattle.std.proofs.lemmas.Bool.Decides.{nat_tests}
use Rattle.std.proofs.lemmas.Fmt.{digits_value-decimal, first_decimal}
use Rattle.std.proofs.lemmas.Str.{digit_value_digit}
use Rattle.std.specs.Char.{digit_value, is_ascii_digit}
use Rattle.std.specs.Int.{IsInRange}
use Rattle.std.specs.List.{join_with_byte}
use Rattle.std.specs.Str.Parse.{digits_value_after}
use Rattle.case_maker.specs.Tables.{seats_word}
use Rattle.case_text.specs.Numbers.{leads_well, number_within, read_on}
use Rattle.case_text.specs.Rows.{flight_row, place_row, seat_row}
use Rattle.fare_law.specs.declared.names.Place.{Place}
use Rattle.fare_law.specs.declared.rows.FlightRow.{FlightRow}
use Rattle.fare_law.specs.declared.rows.TextLine.{TextLine}
use Rattle.fare_law.specs.Lists.{Each}
use Rattle.law_lemmas.proofs.Tests.{le_true}
use Rattle.law_lemmas.proofs.Words.{capitals_again, decimal_model}
use Rattle.market_time.specs.Clock.{minute_spelled, offset_spelled, time_text}
use Rattle.market_time.specs.Dates.{day_spelled}
use Rattle.market_time.proofs.ClockLemmas.{minutes_written}
use Rattle.name_text.specs.Names.{carrier_of, place_of}
use Rattle.name_text.specs.Seats.{seats_of}
use Rattle.word_text.proofs.NumberLemmas.{digits_are}
use Rattle.case_maker.specs.Lines.{IsFlightLine, IsPlaceLine, IsSeatLine, Leg, flight_columns, place_columns, seat_columns}
use Rattle.case_maker.specs.Sections.{mx}
use Rattle.case_maker.proofs.Columns.{IsColumn, IsColumnByte, IsRowByte, capitals_column, column_byte, columns_read, digits_column, joined_bytes, known_column, time_column}

-- ---- numbers

digit_test : (c : ℕ) → IsInRange 48 57 c → is_ascii_digit c ≡ true
digit_test c h = let low = h.0 in let high = h.1 in grind (arith, nat_tests)

worth : (n c : ℕ) → IsInRange 48 57 c → 10 * n + (c - 48) ≡ n * 10 + digit_value c
worth n c h = let e = digit_value_digit c h in omega (arith, e, h.0)

digits_read : (n : ℕ) (digits : List ℕ) → Each (IsInRange 48 57) digits → read_on n digits ≡ Some (digits_value_after 10 n digits)
digits_read n [] h = refl
digits_read n (c ∷ digits) h =
    ap (λ b. cond b (read_on (10 * n + (c - 48)) digits) None) (digit_test c h.0)
    ∙ ap (λ m. read_on m digits) (worth n c h.0) ∙ digits_read (n * 10 + digit_value c) digits h.1

leads : (text : List ℕ) → 48 < get_or text 0 0 → leads_well text ≡ true
leads [] h = absurd (omega (arith, h))
leads (c ∷ []) h = refl
leads (c ∷ d ∷ text) h = ap not (ne_eqb c 48 (λ e. omega (arith, e, h)))

-- the digits of a flight's number are read as it
pub number_read : (n : ℕ) → 1 ≤ n → n ≤ 9999 → number_within 1 9999 (decimal n) ≡ Some n
number_read n some few =
    let small : n < 2 ^ 64 = omega (arith, few) in
    ap (λ b. option_and_then (λ m. cond (nat_le 1 m && nat_le m 9999) (Some m) None) (cond b (read_on 0 (decimal n)) None)) (leads (decimal n) (first_decimal n (omega (arith, some)) small))
    ∙ ap (λ o. option_and_then (λ m. cond (nat_le 1 m && nat_le m 9999) (Some m) None) o) (digits_read 0 (decimal n) (digits_are n small) ∙ ap Some (digits_value-decimal decimal_model n small))
    ∙ rw (le_true 1 n some, le_true n 9999 few) refl

-- ---- names

-- three capitals
pub record IsName (name : List ℕ) : Type 0 where
  pub three : length name ≡ 3
  pub capitals : Each (IsInRange 65 90) name

abbrev pub place_named : List ℕ → Place
place_named name = record { 0 = name }

name_read : (name : List ℕ) → IsName name → place_of name ≡ Some (place_named name)
unfolding place_of
name_read name h = rw (h.three, capitals_again name h.capitals) refl

-- a flight of the carrier, between places, on a day
pub record IsLeg (leg : Leg) : Type 0 where
  pub some : 1 ≤ leg.number
  pub few : leg.number ≤ 9999
  pub from : IsName leg.from
  pub to : IsName leg.to
  pub date : IsColumn leg.date
  pub day : ℤ
  pub day_is : day_spelled leg.date ≡ Some day

name_column : (name : List ℕ) → IsName name → IsColumn name
name_column name h = capitals_column name h.capitals

number_column : (n : ℕ) → n ≤ 9999 → IsColumn (decimal n)
number_column n few = digits_column (decimal n) (digits_are n (omega (arith, few)))

carrier_read : carrier_of (codes "MX") ≡ Some mx
unfolding carrier_of
carrier_read = refl

-- ---- places

abbrev pub line_of : ℕ → List ℕ → TextLine
line_of n bytes = record { line = n; bytes = bytes }

-- a line that is a row, and no header
pub record IsRowLine (line : List ℕ) : Type 0 where
  pub bytes : Each IsRowByte line
  pub some : 0 < length line

pub row_line : (column : List ℕ) (others : List (List ℕ)) → Each IsColumn (column ∷ others) → 0 < length column → IsRowLine (join_with_byte 44 (column ∷ others))
row_line column others h some = record { bytes = joined_bytes (column ∷ others) h; some = longer column others some }
  where
    longer : (column : List ℕ) (others : List (List ℕ)) → 0 < length column → 0 < length (join_with_byte 44 (column ∷ others))
    longer [] others l = absurd (omega (arith, l))
    longer (c ∷ column) [] l = omega arith
    longer (c ∷ column) (next ∷ others) l = omega arith

pub place_fits : (name : List ℕ) → IsName name → Each IsColumn (place_columns name)
place_fits name h = (name_column name h, (known_column (codes "45") refl, tt))

pub place_read : (name line : List ℕ) (n : ℕ) → IsName name → IsPlaceLine name line → place_row (line_of n line) ≡ Ok (record { line = n; place = place_named name; connect = 45 })
place_read name line n h e =
    ap (λ l. place_row (line_of n l)) e ∙ rw (columns_read name (codes "45" ∷ []) 2 (place_fits name h) refl, name_read name h) refl

-- ---- flights

-- the columns after the carrier's
abbrev pub flight_others : Leg → ℕ → ℕ → List (List ℕ)
flight_others leg departs arrives =
    decimal leg.number ∷ leg.from ∷ leg.to ∷ time_text departs ∷ codes "+00:00" ∷ time_text arrives ∷ codes "+00:00" ∷ codes "0" ∷ leg.date ∷ leg.date ∷ codes "1" ∷ []

pub flight_fits : (leg : Leg) (departs arrives : ℕ) → IsLeg leg → departs < 1440 → arrives < 1440 → Each IsColumn (flight_columns leg departs arrives)
flight_fits leg departs arrives h early late = (
  known_column (codes "MX") refl,
  (
    number_column leg.number h.few,
    (
      name_column leg.from h.from,
      (
        name_column leg.to h.to,
        (
          time_column departs early,
          (
            known_column (codes "+00:00") refl,
            (time_column arrives late, (known_column (codes "+00:00") refl, (known_column (codes "0") refl, (h.date, (h.date, (known_column (codes "1") refl, tt)))))),
          ),
        ),
      ),
    ),
  ),
)

no_offset : offset_spelled (codes "+00:00") ≡ Some (pos 0)
unfolding offset_spelled
no_offset = refl

time_read : (minute : ℕ) → minute < 1440 → minute_spelled (time_text minute) ≡ Some minute
time_read minute h = (minutes_written (time_text minute) minute).1 (omega (arith, h), refl)

abbrev pub row_of : Leg → ℤ → ℕ → ℕ → ℕ → FlightRow
row_of leg day departs arrives n = record { line = n; carrier = mx; number = leg.number; from = place_named leg.from; to = place_named leg.to; dep = departs; dep_offset = pos 0; arr = arrives; arr_offset = pos 0; shift = pos 0; first = day; last = day; days = 1 }

pub flight_read : (leg : Leg) (line : List ℕ) (n : ℕ) (h : IsLeg leg) (is : IsFlightLine leg line) → flight_row (line_of n line) ≡ Ok (row_of leg h.day is.departs is.arrives n)
flight_read leg line n h is =
    let early : is.departs < 1440 = (let a = is.in_time in let b = is.same_day in omega (arith, a, b)) in
    ap (λ l. flight_row (line_of n l)) is.line_is ∙ rw (
      columns_read (codes "MX") (flight_others leg is.departs is.arrives) 12 (flight_fits leg is.departs is.arrives h early is.same_day) refl,
      carrier_read,
      number_read leg.number h.some h.few,
      name_read leg.from h.from,
      name_read leg.to h.to,
      time_read is.departs early,
      no_offset,
      time_read is.arrives is.same_day,
      h.day_is,
    ) refl

-- ---- seats

abbrev pub seats_list : ℕ → ℕ → List ℕ
seats_list a b = 0 ∷ 0 ∷ 0 ∷ 0 ∷ 0 ∷ 0 ∷ 0 ∷ 0 ∷ 0 ∷ 0 ∷ 0 ∷ 0 ∷ a ∷ 0 ∷ 0 ∷ 0 ∷ b ∷ 0 ∷ 0 ∷ 0 ∷ 0 ∷ 0 ∷ 0 ∷ 0 ∷ 9 ∷ 0 ∷ 0 ∷ 0 ∷ 0 ∷ 0 ∷ 0 ∷ 0 ∷ []

seats_column : (a b : ℕ) → a ≤ 9 → b ≤ 9 → IsColumn (seats_word a b)
seats_column a b few little = (byte 89 (omega arith) (omega arith), (byte 57 (omega arith) (omega arith), (byte 77 (omega arith) (omega arith), (byte (48 + a) (omega arith) (omega (arith, few)), (byte 81 (omega arith) (omega arith), (byte (48 + b) (omega arith) (omega (arith, little)), tt))))))
  where
    byte : (c : ℕ) → 45 ≤ c → c ≤ 90 → IsColumnByte c
    byte c low high = column_byte c low high

abbrev pub seat_others : Leg → ℕ → ℕ → List (List ℕ)
seat_others leg a b = decimal leg.number ∷ leg.from ∷ codes "*" ∷ seats_word a b ∷ []

pub seat_fits : (leg : Leg) (a b : ℕ) → IsLeg leg → a ≤ 9 → b ≤ 9 → Each IsColumn (seat_columns leg a b)
seat_fits leg a b h few little = (known_column (codes "MX") refl, (number_column leg.number h.few, (name_column leg.from h.from, (known_column (codes "*") refl, (seats_column a b few little, tt)))))

seat_digit : (a : ℕ) → a ≤ 9 → is_ascii_digit (48 + a) ≡ true
seat_digit a h = grind (arith, nat_tests)

less_itself : (a : ℕ) → (48 + a) - 48 ≡ a
less_itself a = omega arith

seats_read : (a b : ℕ) → a ≤ 9 → b ≤ 9 → seats_of (seats_word a b) ≡ Some (seats_list a b)
seats_read a b few little = rw (seat_digit a few, seat_digit b little) (rw (less_itself a, less_itself b) refl)

pub seat_read : (leg : Leg) (line : List ℕ) (n : ℕ) (h : IsLeg leg) (is : IsSeatLine leg line) → seat_row (line_of n line) ≡ Ok (record { line = n; carrier = mx; number = leg.number; from = place_named leg.from; day = None; seats = seats_list is.in_m is.in_q })
seat_read leg line n h is =
    ap (λ l. seat_row (line_of n l)) is.line_is ∙ rw (
      columns_read (codes "MX") (seat_others leg is.in_m is.in_q) 5 (seat_fits leg is.in_m is.in_q h is.few_m is.few_q) refl,
      carrier_read,
      number_read leg.number h.some h.few,
      name_read leg.from h.from,
      seats_read is.in_m is.in_q is.few_m is.few_q,
    ) refl
