-- The bound check: what a move leads to is a row, and no bound is above what a move's price and the next bound allow.
use Rattle.std.specs.Prelude.{◌≡◌, ℕ, ◌+◌, ◌≤◌, List, [], Some, None}
use Rattle.certificate.specs.declared.parts.CertRow.{CertRow}
use Rattle.certificate.specs.InOrder.{AllRight, FirstWrong}
use Rattle.fare_law.specs.declared.flights.Flight.{Flight}
use Rattle.fare_law.specs.declared.moves.Move.{Move}
use Rattle.fare_law.specs.declared.requests.Request.{Request}
use Rattle.fare_law.specs.declared.tickets.Piece.{Piece}
use Rattle.fare_law.specs.Book.{Book}
use Rattle.fare_law.specs.Lists.{IsIn}
use Rattle.fare_law.specs.Parts.{price_of}
use Rattle.flight_paths.specs.declared.positions.Position.{Position}
use Rattle.open_unit.specs.declared.units.OpenUnit.{OpenUnit}
use Rattle.residual_keys.specs.Residuals.{State, Moves, begins, part_with}

-- what a move leaves
abbrev pub state_after : State → Move → Piece → Position → List OpenUnit → State
state_after r m p at us = record { at = at; units = us; part = part_with r.part (begins m.role) p }

-- the row has a bound, and it is at most this price
abbrev pub BoundWithin : CertRow → ℕ → Type 0
BoundWithin row price = (bound : ℕ) × (row.bound ≡ Some bound) × (bound ≤ price)

-- Of each move that ends the journey: the row's bound is at most its price.
abbrev pub EndsHold : Book → Request → CertRow → Type 0
EndsHold b q row = (m : Move) (fs : List Flight) (p : Piece) → Moves b q row.residual m fs p None [] → BoundWithin row (price_of fs p)

-- Of each other move: what it leaves is a row, and where that has a bound, the row's bound is at most the move's price and that bound.
abbrev pub StepsHold : Book → Request → List CertRow → CertRow → Type 0
StepsHold b q rows row = (m : Move) (fs : List Flight) (p : Piece) (at : Position) (us : List OpenUnit) → Moves b q row.residual m fs p (Some at) us
    → (next : CertRow) × IsIn next rows × (next.residual ≡ state_after row.residual m p at us)
    × ((further : ℕ) → next.bound ≡ Some further → BoundWithin row (price_of fs p + further))

abbrev pub BoundRight : Book → Request → List CertRow → List CertRow → CertRow → Type 0
BoundRight b q rows before row = EndsHold b q row × StepsHold b q rows row

abbrev pub BoundsHold : Book → Request → List CertRow → Type 0
BoundsHold b q rows = AllRight (BoundRight b q rows) rows

-- The first row that isn't right.
abbrev pub BoundsFail : Book → Request → List CertRow → ℕ → Type 0
BoundsFail b q rows place = FirstWrong (BoundRight b q rows) rows place
