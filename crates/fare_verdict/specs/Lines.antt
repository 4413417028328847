-- What a line of a ticket says.
use Rattle.std.specs.Prelude.{bytes_eq, ◌==◌, ℕ, List, Option, Some, None, option_and_then, if◌then◌else◌, codes}
use Rattle.market_time.specs.Dates.{day_spelled}
use Rattle.name_text.specs.Names.{basis_of, carrier_of, place_of}
use Rattle.word_text.specs.Words.{cut_at, number_in}
use Rattle.fare_verdict.specs.declared.forms.TicketLine.{TicketLine}
use Rattle.fare_verdict.specs.declared.forms.TicketLine.TheVariants.{Component, Flight}

-- one thing after another, as long as each is there
infixl 10 ◌>>=◌
abbrev pub ◌>>=◌ : {A B : Type 0} → Option A → (A → Option B) → Option B
o >>= f = option_and_then f o

-- the word before the first space, and what stands after that
abbrev pub word_in : List ℕ → Option (List ℕ × List ℕ)
word_in text = cut_at 32 text

-- U CARRIER FROM TO BASIS, with U from 0 to 255
unfoldable pub component_in : List ℕ → Option TicketLine
component_in text = do
  a ← word_in text
  b ← word_in a.1
  c ← word_in b.1
  d ← word_in c.1
  unit ← number_in 255 a.0
  carrier ← carrier_of b.0
  from ← place_of c.0
  to ← place_of d.0
  basis ← basis_of d.1
  Some (Component unit (record { carrier = carrier; from = from; to = to; basis = basis }))

-- a flight's number: 1 to 9999
unfoldable pub flight_number_in : List ℕ → Option ℕ
flight_number_in word = do
  n ← number_in 9999 word
  if n == 0 then None else Some n

-- CARRIER NUMBER DATE FROM
unfoldable pub flight_in : List ℕ → Option TicketLine
flight_in text = do
  a ← word_in text
  b ← word_in a.1
  c ← word_in b.1
  carrier ← carrier_of a.0
  number ← flight_number_in b.0
  day ← day_spelled c.0
  from ← place_of c.1
  Some (Flight (record { carrier = carrier; number = number; day = day; from = from }))

-- what the line says, if it is of one of the two forms
unfoldable pub line_in : List ℕ → Option TicketLine
line_in text = do
  first ← word_in text
  if bytes_eq first.0 (codes "component") then component_in first.1 else if bytes_eq first.0 (codes "flight") then flight_in first.1 else None
