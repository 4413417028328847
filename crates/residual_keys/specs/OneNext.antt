-- What a move leaves, and how a run goes on from there.
use Rattle.std.specs.Prelude.{◌≡◌, ℕ, List, ◌++◌, Option}
use Rattle.fare_law.specs.declared.flights.Flight.{Flight}
use Rattle.fare_law.specs.declared.moves.Move.{Move}
use Rattle.fare_law.specs.declared.requests.Request.{Request}
use Rattle.fare_law.specs.declared.tickets.Piece.{Piece}
use Rattle.fare_law.specs.Book.{Book}
use Rattle.fare_law.specs.Lists.{Each}
use Rattle.flight_paths.specs.declared.positions.Position.{Position}
use Rattle.open_unit.specs.declared.units.OpenUnit.{OpenUnit}
use Rattle.ticket_order.specs.Coding.{Coded}
use Rattle.residual_keys.specs.Residuals.{State, Moves, Run, LeadsFrom}

-- What a move takes and leaves is one: its flights, what they are to its fare, and the position and the open units after it.
abbrev pub MoveLeavesOne : Book → Request → Type 0
MoveLeavesOne b q =
    (r : State) (m : Move) (fs gs : List Flight) (p p' : Piece) (next next' : Option Position) (us us' : List OpenUnit)
    → Moves b q r m fs p next us → Moves b q r m gs p' next' us' → (fs ≡ gs) × (p ≡ p') × (next ≡ next') × (us ≡ us')

-- Moves lead from a state to one state.
abbrev pub MovesLeadToOne : Book → Request → Type 0
MovesLeadToOne b q = (r x y : State) (ms : List Move) → LeadsFrom b q r ms x → LeadsFrom b q r ms y → x ≡ y

-- Where moves lead to a state, a run that begins with them goes on from that state.
abbrev pub RunGoesOn : Book → Request → Type 0
RunGoesOn b q =
    (r x : State) (ms rest : List Move) → LeadsFrom b q r ms x → (price : ℕ) × Run b q r (ms ++ rest) price → (further : ℕ) × Run b q x rest further

-- Each move of a run has a carrier and a basis that are well formed.
abbrev pub RunHasKeys : Book → Request → Type 0
RunHasKeys b q = (x : State) (ms : List Move) (price : ℕ) → Run b q x ms price → Each Coded ms
