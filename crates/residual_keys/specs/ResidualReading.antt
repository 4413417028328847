-- What the parts of a text spell, word by word. That together they spell the residual of just this text is a clause of its reader.
use Rattle.std.specs.Prelude.{bytes_eq, ℕ, ℤ, pos, List, Option, Some, None, option_map, option_and_then, if◌then◌else◌, codes}
use Rattle.fare_law.specs.declared.names.Place.{Place}
use Rattle.flight_paths.specs.declared.positions.Position.{Position}
use Rattle.name_text.specs.Names.{place_of, carrier_of}
use Rattle.open_unit.specs.declared.marks.CarrierMark.{CarrierMark}
use Rattle.open_unit.specs.declared.marks.CarrierMark.TheVariants.{NotYet, One, Mixed}
use Rattle.open_unit.specs.declared.marks.RuleMark.{RuleMark}
use Rattle.open_unit.specs.declared.marks.RuleMark.TheVariants.{One as OneRule, Mixed as MixedRules}
use Rattle.open_unit.specs.declared.units.OpenUnit.{OpenUnit}
use Rattle.residual_keys.specs.declared.parts.TicketPart.{TicketPart}
use Rattle.residual_keys.specs.declared.reading.Opening.{Opening}
use Rattle.residual_keys.specs.declared.reading.Parts.{Parts}
use Rattle.residual_keys.specs.declared.reading.SetDays.{SetDays}
use Rattle.residual_keys.specs.declared.reading.UnitMarks.{UnitMarks}
use Rattle.word_text.specs.Words.{cut_at, cut_last_at, number_in}

-- one thing after another, as long as each is there
infixl 10 ◌>>=◌
abbrev pub ◌>>=◌ : {A B : Type 0} → Option A → (A → Option B) → Option B
o >>= f = option_and_then f o

unfoldable pub via_in : List ℕ → Option (Option Place)
via_in word = if bytes_eq word (codes "-") then Some None else option_map Some (place_of word)

-- a day that a 32-bit number holds
unfoldable pub day_in : List ℕ → Option ℤ
day_in word = option_map pos (number_in 2147483647 word)

unfoldable pub set_day_in : List ℕ → Option (Option ℤ)
set_day_in word = if bytes_eq word (codes "-") then Some None else option_map Some (day_in word)

unfoldable pub carriers_in : List ℕ → Option CarrierMark
carriers_in word =
    if bytes_eq word (codes "-") then Some NotYet else if bytes_eq word (codes "*") then Some Mixed else option_map One (carrier_of word)

unfoldable pub rules_in : List ℕ → Option RuleMark
rules_in word = if bytes_eq word (codes "*") then Some MixedRules else option_map OneRule (number_in 65535 word)

-- a position, and what follows it after a space
unfoldable pub position_in : List ℕ → Option (Position × List ℕ)
position_in text = do
  a ← cut_at 32 text
  b ← cut_at 32 a.1
  c ← cut_at 32 b.1
  d ← cut_at 32 c.1
  e ← cut_at 32 d.1
  f ← cut_at 32 e.1
  slice ← number_in 255 a.0
  leg ← number_in 255 b.0
  place ← place_of c.0
  via ← via_in d.0
  lo ← number_in 4294967295 e.0
  hi ← number_in 4294967295 f.0
  Some (record { slice = slice; leg = leg; place = place; via = via; lo = lo; hi = hi }, f.1)

-- where an open unit begins and ends, its components and its first day, and what follows them after a colon
unfoldable pub opening_in : List ℕ → Option (Opening × List ℕ)
opening_in text = do
  a ← cut_at 62 text
  b ← cut_at 58 a.1
  c ← cut_at 58 b.1
  d ← cut_at 58 c.1
  origin ← place_of a.0
  end ← place_of b.0
  count ← number_in 255 c.0
  first ← day_in d.0
  Some (record { origin = origin; end = end; count = count; first_day = first }, d.1)

-- the days that an open unit's rules set, and what follows them after a colon
unfoldable pub days_in : List ℕ → Option (SetDays × List ℕ)
days_in text = do
  a ← cut_at 58 text
  b ← cut_at 58 a.1
  c ← cut_at 58 b.1
  least ← set_day_in a.0
  greatest ← set_day_in b.0
  by ← set_day_in c.0
  Some (record { least = least; greatest = greatest; by = by }, c.1)

-- what an open unit may still become
unfoldable pub marks_in : List ℕ → Option UnitMarks
marks_in text = do
  a ← cut_at 58 text
  b ← cut_at 58 a.1
  c ← cut_at 58 b.1
  kinds ← number_in 255 a.0
  partner ← number_in 255 b.0
  carrier ← carriers_in c.0
  rule ← rules_in c.1
  Some (record { kinds = kinds; partner = partner; carrier = carrier; rule = rule })

unfoldable pub unit_in : List ℕ → Option OpenUnit
unit_in text = do
  opening ← opening_in text
  days ← days_in opening.1
  marks ← marks_in days.1
  Some (record {
    origin = opening.0.origin;
    end = opening.0.end;
    count = opening.0.count;
    first_day = opening.0.first_day;
    least = days.0.least;
    greatest = days.0.greatest;
    by = days.0.by;
    kinds = marks.kinds;
    partner = marks.partner;
    carrier = marks.carrier;
    rule = marks.rule;
  })

-- one unit, or two where there is a slash
abbrev pub units_parted : List ℕ → Option (List ℕ × List ℕ) → Option (Option OpenUnit × Option OpenUnit)
units_parted text None = option_map (λ u. (Some u, None)) (unit_in text)
units_parted text (Some p) = do
  first ← unit_in p.0
  second ← unit_in p.1
  Some (Some first, Some second)

unfoldable pub units_in : List ℕ → Option (Option OpenUnit × Option OpenUnit)
units_in text = if bytes_eq text (codes "-") then Some (None, None) else units_parted text (cut_at 47 text)

unfoldable pub part_in : List ℕ → Option TicketPart
part_in text = do
  a ← cut_at 58 text
  b ← cut_at 58 a.1
  units ← number_in 255 a.0
  ends ← number_in 255 b.0
  carrier ← carriers_in b.1
  Some (record { units = units; ends = ends; carrier = carrier })

-- the parts of a residual, whether they make one or not: the ticket part is what follows the last space
unfoldable pub parts_in : List ℕ → Option Parts
parts_in text = do
  at ← position_in text
  rest ← cut_last_at 32 at.1
  units ← units_in rest.0
  part ← part_in rest.1
  Some (record { at = at.0; first = units.0; second = units.1; part = part })
