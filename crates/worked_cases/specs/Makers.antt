-- Plain words for small books: flights from 10:00 to 12:00 UTC of carrier QX, fares in class Y, a ticket of one flight a slice.
use Rattle.std.specs.Prelude.{ℕ, Bool, pos, ◌+◌, ◌*◌, List, [], ◌∷◌, map, None}
use Rattle.fare_law.specs.declared.fares.Fare.{Fare}
use Rattle.fare_law.specs.declared.fares.FareKind.{FareKind}
use Rattle.fare_law.specs.declared.filings.Action.{Action}
use Rattle.fare_law.specs.declared.flights.Flight.{Flight}
use Rattle.fare_law.specs.declared.names.Carrier.{Carrier}
use Rattle.fare_law.specs.declared.names.Place.{Place}
use Rattle.fare_law.specs.declared.requests.Request.{Request}
use Rattle.fare_law.specs.declared.requests.Slice.{Slice}
use Rattle.fare_law.specs.declared.rows.PlaceRow.{PlaceRow}
use Rattle.fare_law.specs.declared.rows.SeatRow.{SeatRow}
use Rattle.fare_law.specs.declared.rules.Rule.{Rule}
use Rattle.fare_law.specs.declared.tickets.Piece.{Piece}
use Rattle.fare_law.specs.declared.tickets.Ticket.{Ticket}
use Rattle.fare_law.specs.Book.{Book}
use Rattle.fare_law.specs.Parts.{Part}

abbrev pub qx : Carrier
qx = record { 0 = 81 ∷ 88 ∷ [] }

abbrev pub lon : Place
lon = record { 0 = 76 ∷ 79 ∷ 78 ∷ [] }

abbrev pub nyc : Place
nyc = record { 0 = 78 ∷ 89 ∷ 67 ∷ [] }

abbrev pub par : Place
par = record { 0 = 80 ∷ 65 ∷ 82 ∷ [] }

abbrev pub rom : Place
rom = record { 0 = 82 ∷ 79 ∷ 77 ∷ [] }

abbrev pub bos : Place
bos = record { 0 = 66 ∷ 79 ∷ 83 ∷ [] }

abbrev pub chi : Place
chi = record { 0 = 67 ∷ 72 ∷ 73 ∷ [] }

abbrev pub flight_of : ℕ → Place → Place → ℕ → Flight
flight_of number from to day = record { carrier = qx; number = number; from = from; to = to; day = pos day; minute = 600; dep = pos (1440 * day + 600); arr = pos (1440 * day + 720) }

-- a fare whose basis is a letter and the digit 1
abbrev pub fare_of : Place → Place → ℕ → FareKind → ℕ → ℕ → Fare
fare_of from to letter kind amount rule = record { key = record { carrier = qx; from = from; to = to; basis = record { 0 = letter ∷ 49 ∷ [] } }; class = 24; kind = kind; amount = amount; rule = rule }

abbrev pub slice_of : Place → Place → ℕ → Slice
slice_of from to day = record { from = from; to = to; first = pos day; days = 1 }

abbrev pub place_row : Place → PlaceRow
place_row place = record { line = 1; place = place; connect = 60 }

-- nine seats in class Y
abbrev pub seat_row : Flight → SeatRow
seat_row f = record { line = 1; carrier = f.carrier; number = f.number; from = f.from; day = None; seats = 0 ∷ 0 ∷ 0 ∷ 0 ∷ 0 ∷ 0 ∷ 0 ∷ 0 ∷ 0 ∷ 0 ∷ 0 ∷ 0 ∷ 0 ∷ 0 ∷ 0 ∷ 0 ∷ 0 ∷ 0 ∷ 0 ∷ 0 ∷ 0 ∷ 0 ∷ 0 ∷ 0 ∷ 9 ∷ 0 ∷ 0 ∷ 0 ∷ 0 ∷ 0 ∷ 0 ∷ 0 ∷ [] }

abbrev pub book_of : List Place → List Flight → List Action → Book
book_of places flights actions = record { timetable = record { places = map place_row places; flights = flights; seats = map seat_row flights }; entries = record { actions = actions } ∷ [] }

abbrev pub request_of : List Slice → Request
request_of slices = record { sale = pos 22311; party = 1; best = 3; slices = slices }

-- one component of a ticket of one flight a slice, with all that it stands for
pub record Leg : Type 0 where
  pub number : ℕ
  pub flight : Flight
  pub fare : Fare
  pub rule : Rule
  pub reverse : Bool
  pub unit : ℕ
  pub slice : Slice

abbrev pub ticket_of : List Leg → Ticket
ticket_of legs = record { components = map (λ l. record { flights = l.number ∷ []; fare = l.fare.key; unit = l.unit }) legs }

abbrev pub piece_of : Request → Leg → Piece
piece_of q l = record { begin = l.flight.from; end = l.flight.to; fare = l.fare; rule = l.rule; reverse = l.reverse; first_day = l.flight.day; last_day = l.flight.day; sale = q.sale }

abbrev pub part_of : Request → Leg → Part
part_of q l = record { flights = l.flight ∷ []; piece = piece_of q l; unit = l.unit }

abbrev pub slices_of : List Leg → List Slice
slices_of legs = map (λ l. l.slice) legs
