-- A component's class of seats is open on its flights.
use Rattle.std.proofs.Common.{ℕ, ◌<◌, ◌≤◌, List, [], ◌∷◌, All, IsBitSet, arith}
use Rattle.std.proofs.lemmas.List.Elements.{All-cons, All-head, All-nil, All-tail}
use Rattle.fare_book.specs.Keeping.{Limited}
use Rattle.fare_groups.specs.Groups.{HasClass}
use Rattle.fare_law.specs.declared.flights.Flight.{Flight}
use Rattle.fare_law.specs.declared.requests.Request.{Request}
use Rattle.fare_law.specs.declared.sheets.Leg.{Leg}
use Rattle.fare_law.specs.Book.{Book, seats}
use Rattle.fare_law.specs.Lists.{Matched}
use Rattle.flight_paths.specs.declared.positions.Position.{Position}
use Rattle.outlines.specs.declared.outline.Outline.{Outline}
use Rattle.outlines.specs.Outlines.{Outlined}
use Rattle.fare_ends.specs.Legs.{HasLegs}
use Rattle.residual_keys.specs.AskedKeys.{IsLeg}

has_class : (b : Book) (party class : ℕ) → class < 32 → (fs : List Flight) (ls : List Leg) → Matched (IsLeg b party) fs ls → All (λ f. party ≤ seats b f class) fs → HasClass class ls
has_class b party class lt [] [] m a = All-nil (λ (l : Leg). IsBitSet l.classes class)
has_class b party class lt [] (l ∷ ls) m a = absurd m
has_class b party class lt (f ∷ fs) [] m a = absurd m
has_class b party class lt (f ∷ fs) (l ∷ ls) m a =
    All-cons (λ (l : Leg). IsBitSet l.classes class) l ls ((m.0.classes class lt).1 (All-head (λ f. party ≤ seats b f class) f fs a)) (has_class b party class lt fs ls m.1 (All-tail (λ f. party ≤ seats b f class) f fs a))

module _ (b : Book) (q : Request) (at : Position) (o : Outline) (price : ℕ) (h : Outlined b q at o price) (limited : Limited b) where
  pub class_low : h.piece.fare.class < 32
  class_low = let l = (limited.fares h.piece.fare.key h.piece.fare h.stands.fare).1.class in omega (arith, l)

  pub class_open : (classes : ℕ) → HasLegs b q h.flights classes → IsBitSet classes h.piece.fare.class
  class_open classes l = (l.classes_are h.piece.fare.class class_low).1 (has_class b q.party h.piece.fare.class class_low h.flights l.legs l.legs_are.each h.lawful.seated)
