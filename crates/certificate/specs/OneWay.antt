-- A worked case: one flight and one fare from LON to NYC, and its certificate with this bound of the one row.
use Rattle.std.specs.Prelude.{ℕ, pos, List, [], ◌∷◌, Some, None}
use Rattle.certificate.specs.declared.parts.CertAnswer.{CertAnswer}
use Rattle.certificate.specs.declared.parts.CertRow.{CertRow}
use Rattle.certificate.specs.declared.parts.Certificate.{Certificate}
use Rattle.certificate.specs.Checks.{FirstFailure}
use Rattle.fare_law.specs.declared.fares.Fare.{Fare}
use Rattle.fare_law.specs.declared.fares.FareKind.TheVariants.{O}
use Rattle.fare_law.specs.declared.filings.Action.TheVariants.{PutFare}
use Rattle.fare_law.specs.declared.flights.Flight.{Flight}
use Rattle.fare_law.specs.declared.moves.Move.{Move}
use Rattle.fare_law.specs.declared.moves.Role.TheVariants.{Alone}
use Rattle.fare_law.specs.declared.names.Basis.{Basis}
use Rattle.fare_law.specs.declared.names.Carrier.{Carrier}
use Rattle.fare_law.specs.declared.names.Place.{Place}
use Rattle.fare_law.specs.declared.requests.Request.{Request}
use Rattle.fare_law.specs.declared.requests.Slice.{Slice}
use Rattle.fare_law.specs.Book.{Book}
use Rattle.residual_keys.specs.Residuals.{State, no_part}

abbrev pub lon : Place
lon = record { 0 = 76 ∷ 79 ∷ 78 ∷ [] }

abbrev pub nyc : Place
nyc = record { 0 = 78 ∷ 89 ∷ 67 ∷ [] }

abbrev pub qx : Carrier
qx = record { 0 = 81 ∷ 88 ∷ [] }

-- basis Y1
abbrev pub y1 : Basis
y1 = record { 0 = 89 ∷ 49 ∷ [] }

-- QX 101 on 2031-03-03, 10:00 UTC to 18:00 UTC
abbrev pub flight : Flight
flight = record { carrier = qx; number = 101; from = lon; to = nyc; day = pos 22341; minute = 600; dep = pos 32171640; arr = pos 32172120 }

-- in class Y, one way or round trip
abbrev pub fare : Fare
fare = record { key = record { carrier = qx; from = lon; to = nyc; basis = y1 }; class = 24; kind = O; amount = 20000; rule = 0 }

-- nine seats in class Y
abbrev pub nine : List ℕ
nine = 0 ∷ 0 ∷ 0 ∷ 0 ∷ 0 ∷ 0 ∷ 0 ∷ 0 ∷ 0 ∷ 0 ∷ 0 ∷ 0 ∷ 0 ∷ 0 ∷ 0 ∷ 0 ∷ 0 ∷ 0 ∷ 0 ∷ 0 ∷ 0 ∷ 0 ∷ 0 ∷ 0 ∷ 9 ∷ 0 ∷ 0 ∷ 0 ∷ 0 ∷ 0 ∷ 0 ∷ 0 ∷ []

abbrev pub one_way_book : Book
one_way_book = record {
  timetable = record {
    places = record { line = 2; place = lon; connect = 60 } ∷ record { line = 3; place = nyc; connect = 60 } ∷ [];
    flights = flight ∷ [];
    seats = record { line = 7; carrier = qx; number = 101; from = lon; day = None; seats = nine } ∷ [];
  };
  entries = record { actions = PutFare fare ∷ [] } ∷ [];
}

abbrev pub one_way_slice : Slice
one_way_slice = record { from = lon; to = nyc; first = pos 22341; days = 1 }

-- three tickets for one passenger, sold on 2031-02-01
abbrev pub one_way_request : Request
one_way_request = record { sale = pos 22311; party = 1; best = 3; slices = one_way_slice ∷ [] }

abbrev pub one_way_root : State
one_way_root = record { at = record { slice = 0; leg = 0; place = lon; via = None; lo = 0; hi = 1 }; units = []; part = no_part }

abbrev pub one_way_move : Move
one_way_move = record { flights = 0 ∷ []; carrier = qx; basis = y1; role = Alone; slot = 0 }

abbrev pub one_way_answer : CertAnswer
one_way_answer = record { price = 20000; moves = one_way_move ∷ [] }

abbrev pub one_way_row : ℕ → CertRow
one_way_row bound = record { residual = one_way_root; bound = Some bound }

abbrev pub one_way_certificate : ℕ → Certificate
one_way_certificate bound = record { number = 1; request = one_way_request; answers = one_way_answer ∷ []; rows = one_way_row bound ∷ [] }

-- with the fare's amount as its bound
abbrev pub one_way_right : Certificate
one_way_right = one_way_certificate 20000

-- this check is the first that fails of the certificate, at this place
abbrev pub FailsAt : Certificate → ℕ → ℕ → Type 0
FailsAt c rule place = FirstFailure c one_way_book one_way_request rule place
