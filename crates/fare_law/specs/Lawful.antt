-- A lawful ticket.
use Rattle.std.specs.Prelude.{◌≡◌, ◌≢◌, ◌⊎◌, ℕ, suc, Bool, true, false, ◌||◌, ◌==◌, ◌≤◌, ◌<◌, List, [], ◌∷◌, ◌++◌, map, flat_map, filter, IfSome}
use Rattle.fare_law.specs.declared.rules.EndOnEnd.{EndOnEnd}
use Rattle.fare_law.specs.declared.rules.EndOnEnd.TheVariants.{Free, SameCarrier, Never}
use Rattle.fare_law.specs.declared.tickets.Piece.{Piece}
use Rattle.fare_law.specs.declared.requests.Request.{Request}
use Rattle.fare_law.specs.declared.tickets.Ticket.{Ticket}
use Rattle.fare_law.specs.Book.{Book}
use Rattle.fare_law.specs.Journey.{Itinerary}
use Rattle.fare_law.specs.Lists.{Each, Matched}
use Rattle.fare_law.specs.Parts.{Part, IsPart, ComponentLawful}
use Rattle.fare_law.specs.Units.{UnitLawful}

-- whether the label u stands among these
abbrev pub comes_in : ℕ → List ℕ → Bool
comes_in u [] = false
comes_in u (l ∷ ls) = (u == l) || comes_in u ls

-- Each label is one of the first n, or the next.
abbrev pub Numbered : ℕ → List ℕ → Type 0
Numbered n [] = Unit {0}
Numbered n (l ∷ ls) = ((1 ≤ l) × (l ≤ n) × Numbered n ls) ⊎ ((l ≡ suc n) × Numbered (suc n) ls)

abbrev pub StandsOnBothSides : List ℕ → List ℕ → ℕ → Type 0
StandsOnBothSides before after u = (comes_in u before ≡ true) × (comes_in u after ≡ true)

-- At no boundary do three labels stand on both sides.
abbrev pub AtMostTwoStraddle : List ℕ → Type 0
AtMostTwoStraddle ls =
    (before after : List ℕ) → before ++ after ≡ ls → (u v w : ℕ) → u < v → v < w
    → StandsOnBothSides before after u → StandsOnBothSides before after v → StandsOnBothSides before after w → ⊥

-- the components of one label, in order
abbrev pub unit_of : ℕ → List Part → List Piece
unit_of u parts = map (λ part. part.piece) (filter (λ part. part.unit == u) parts)

abbrev pub EndOnEndOf : List Part → Piece → EndOnEnd → Type 0
EndOnEndOf parts p Free = Unit {0}
EndOnEndOf parts p SameCarrier = Each (λ other. other.piece.fare.key.carrier ≡ p.fare.key.carrier) parts
EndOnEndOf parts p Never = Each (λ other. other.unit ≡ 1) parts

-- category 10, on all fares and units of the ticket
abbrev pub EndOnEndHolds : List Part → Piece → Type 0
EndOnEndHolds parts p = IfSome p.rule.cat10 (λ c. EndOnEndOf parts p c.end_on_end)

-- A ticket of these parts is lawful.
pub record PartsLawful (b : Book) (q : Request) (parts : List Part) : Type 0 where
  pub journey : Itinerary b q.slices (flat_map (λ part. part.flights) parts)
  pub components : Each (λ part. ComponentLawful b q.party part.flights part.piece) parts
  pub numbered : Numbered 0 (map (λ part. part.unit) parts)
  pub units : Each (λ part. UnitLawful (unit_of part.unit parts)) parts
  pub end_on_end : Each (λ part. EndOnEndHolds parts part.piece) parts
  pub straddling : AtMostTwoStraddle (map (λ part. part.unit) parts)

-- The ticket is lawful: its components stand for lawful parts.
abbrev pub Lawful : Ticket → Book → Request → Type 0
Lawful t b q = (parts : List Part) × Matched (IsPart b q) t.components parts × PartsLawful b q parts × (t.components ≢ [])
