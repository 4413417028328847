-- What is said of a component in its line, beside its fare.
use Rattle.std.specs.Prelude.{◌≡◌, ℕ, List, Option, MatchOption}
use Rattle.fare_law.specs.Lawful.{unit_of}
use Rattle.fare_law.specs.Parts.{Part, price_of}
use Rattle.fare_law.specs.Units.{IsUnit}
use Rattle.answer_text.specs.declared.lines.ComponentLine.{ComponentLine}

-- this is said of the component with this number among these
pub record Says (parts : List Part) (number : ℕ) (part : Part) (line : ComponentLine) : Type 0 where
  pub place : line.number ≡ number
  pub label : line.unit ≡ part.unit
  pub unit : IsUnit line.kind (unit_of part.unit parts)
  pub reverse : line.reverse ≡ part.piece.reverse
  pub price : line.price ≡ price_of part.flights part.piece

-- something is said, and it is this
abbrev pub SaysAll : List Part → ℕ → Part → Option ComponentLine → Type 0
SaysAll parts number part line = MatchOption line ⊥ (Says parts number part)
