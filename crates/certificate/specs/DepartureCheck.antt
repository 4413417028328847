-- The departure check: whatever leaves the answers comes after the last of as many answers as are asked for.
use Rattle.std.specs.Prelude.{◌≡◌, ◌≢◌, ◌⊎◌, ℕ, suc, ◌+◌, ◌<◌, List, [], ◌∷◌, ◌++◌, length, Some, None}
use Rattle.certificate.specs.declared.parts.CertAnswer.{CertAnswer}
use Rattle.certificate.specs.BoundCheck.{state_after}
use Rattle.certificate.specs.declared.parts.CertRow.{CertRow}
use Rattle.certificate.specs.RowCheck.{IsRoot}
use Rattle.fare_law.specs.declared.flights.Flight.{Flight}
use Rattle.fare_law.specs.declared.moves.Move.{Move}
use Rattle.fare_law.specs.declared.requests.Request.{Request}
use Rattle.fare_law.specs.declared.tickets.Piece.{Piece}
use Rattle.fare_law.specs.Book.{Book}
use Rattle.fare_law.specs.Lists.{Each, IsIn, OnLast}
use Rattle.fare_law.specs.Codes.{run_code}
use Rattle.fare_law.specs.Best.{Before}
use Rattle.fare_law.specs.Parts.{price_of}
use Rattle.flight_paths.specs.declared.positions.Position.{Position}
use Rattle.open_unit.specs.declared.units.OpenUnit.{OpenUnit}
use Rattle.residual_keys.specs.Residuals.{State, Moves}

-- these moves lead from one state to another, at this price
abbrev pub LeadsFor : Book → Request → State → List Move → State → ℕ → Type 0
LeadsFor b q r [] x price = (x ≡ r) × (price ≡ 0)
LeadsFor b q r (m ∷ ms) x price =
    (fs : List Flight) × (p : Piece) × (at : Position) × (us : List OpenUnit) × (rest : ℕ) × Moves b q r m fs p (Some at) us
    × LeadsFor b q (state_after r m p at us) ms x rest × (price ≡ price_of fs p + rest)

-- The move counts: it ends the journey, and this is its price, or it leads to a row with a bound, and this is its price and that bound.
abbrev pub CountsFor : Book → Request → List CertRow → State → Move → ℕ → Type 0
CountsFor b q rows x m least =
    ((fs : List Flight) × (p : Piece) × Moves b q x m fs p None [] × (least ≡ price_of fs p))
    ⊎ ((fs : List Flight) × (p : Piece) × (at : Position) × (us : List OpenUnit) × (row : CertRow) × (bound : ℕ)
    × Moves b q x m fs p (Some at) us × IsIn row rows × (row.residual ≡ state_after x m p at us) × (row.bound ≡ Some bound) × (least ≡ price_of fs p + bound))

-- the moves are a proper front of the answer's
abbrev pub BeginsWith : CertAnswer → List Move → Type 0
BeginsWith a front = (m : Move) × (rest : List Move) × (a.moves ≡ front ++ m ∷ rest)

-- nothing, or a proper front of an answer's moves
abbrev pub IsFront : List CertAnswer → List Move → Type 0
IsFront answers front = (front ≡ []) ⊎ ((a : CertAnswer) × IsIn a answers × BeginsWith a front)

-- no answer that begins with this front takes this move then
abbrev pub NoneTakes : List CertAnswer → List Move → Move → Type 0
NoneTakes answers front m = (a : CertAnswer) (rest : List Move) → IsIn a answers → a.moves ≡ front ++ m ∷ rest → ⊥

-- A departure that counts, with its least price: a front, and one last move that no answer takes after it.
pub record Departs (b : Book) (q : Request) (rows : List CertRow) (answers : List CertAnswer) (front : List Move) (m : Move) (least : ℕ) : Type 0 where
  pub root : State
  pub there : State
  pub price : ℕ
  pub last : ℕ
  pub is_root : IsRoot b q root
  pub leads : LeadsFor b q root front there price
  pub is_front : IsFront answers front
  pub none_takes : NoneTakes answers front m
  pub counts : CountsFor b q rows there m last
  pub whole : least ≡ price + last

-- There are as many answers as are asked for, and the last of them comes before this price with this code.
abbrev pub ComesAfter : Request → List CertAnswer → List Move → ℕ → Type 0
ComesAfter q answers moves least = (length answers ≡ q.best) × OnLast (λ a. Before a.price (run_code a.moves) least (run_code moves)) answers

abbrev pub DeparturesHold : Book → Request → List CertRow → List CertAnswer → Type 0
DeparturesHold b q rows answers = (front : List Move) (m : Move) (least : ℕ) → Departs b q rows answers front m least → ComesAfter q answers (front ++ m ∷ []) least

-- the least answer that begins with this front, and 0 for the front of no move
abbrev pub FrontAt : List CertAnswer → List Move → ℕ → Type 0
FrontAt answers front place =
    ((front ≡ []) × (place ≡ 0))
    ⊎ ((front ≢ []) × (before : List CertAnswer) × (a : CertAnswer) × (after : List CertAnswer)
    × (answers ≡ before ++ a ∷ after) × Each (λ c. BeginsWith c front → ⊥) before × BeginsWith a front × (place ≡ suc (length before)))

-- The least place at which a departure fails.
pub record DeparturesFail (b : Book) (q : Request) (rows : List CertRow) (answers : List CertAnswer) (place : ℕ) : Type 0 where
  pub front : List Move
  pub move : Move
  pub least : ℕ
  pub departs : Departs b q rows answers front move least
  pub at : FrontAt answers front place
  pub fails : ComesAfter q answers (front ++ move ∷ []) least → ⊥
  pub earlier : (front' : List Move) (m : Move) (price : ℕ) (place' : ℕ) → Departs b q rows answers front' m price → FrontAt answers front' place' → place' < place → ComesAfter q answers (front' ++ m ∷ []) price
