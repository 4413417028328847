-- A ticket of one flight a slice is lawful where each leg holds, the legs are far enough apart, and labels, units and end on end hold.
use Rattle.std.proofs.Common.{◌≡◌, ◌≢◌, ℕ, ℤ, pos, ◌≤◌, ◌+ℤ◌, ◌≤ℤ◌, ◌∷◌, List, [], map, flat_map, Option, Some, None, sym, refl, subst, arith}
use Rattle.std.proofs.lemmas.List.Elements.{All-from_recursion}
use Rattle.fare_law.specs.declared.flights.Flight.{Flight}
use Rattle.fare_law.specs.declared.requests.Request.{Request}
use Rattle.fare_law.specs.Book.{Book, connect, flight_at, live_fare, live_rule, seats}
use Rattle.fare_law.specs.Journey.{FliesFrom, InWindow, LateEnough}
use Rattle.fare_law.specs.Lawful.{Lawful, unit_of, EndOnEndHolds}
use Rattle.fare_law.specs.Parts.{Part, IsPart, Filed, Seated, ComponentLawful}
use Rattle.fare_law.specs.Lists.{Each, EachPair, Matched}
use Rattle.fare_law.specs.Units.{UnitLawful}
use Rattle.unit_labels.specs.Labels.{LawfulLabels}
use Rattle.worked_cases.specs.Makers.{Leg, ticket_of, piece_of, part_of, slices_of}

pub record LegHolds (b : Book) (q : Request) (l : Leg) : Type 0 where
  pub known : flight_at b l.number ≡ Some l.flight
  pub fare : live_fare b l.fare.key ≡ Some l.fare
  pub rule : live_rule b l.fare.key.carrier l.fare.rule ≡ Some l.rule
  pub filed : Filed (piece_of q l)
  pub from : l.flight.from ≡ l.slice.from
  pub to : l.flight.to ≡ l.slice.to
  pub apart : l.slice.from ≢ l.flight.to
  pub window : InWindow l.slice l.flight
  pub lawful : ComponentLawful b q.party (l.flight ∷ []) (piece_of q l)

pub one_seated : (b : Book) (party class : ℕ) (f : Flight) → party ≤ seats b f class → Seated b party class (f ∷ [])
one_seated b party class f h = All-from_recursion (λ g. party ≤ seats b g class) (f ∷ []) (h, tt)

-- each flight departs long enough after the one before arrived
abbrev pub FarApart : Book → List Leg → Type 0
FarApart b legs = EachPair (λ l m. (l.flight.arr +ℤ pos (connect b m.flight.from)) ≤ℤ m.flight.dep) legs

abbrev pub parts_of : Request → List Leg → List Part
parts_of q legs = map (part_of q) legs

flies : (b : Book) (q : Request) (arrival : Option ℤ) (l : Leg) (legs : List Leg) → Each (LegHolds b q) (l ∷ legs) → LateEnough b arrival l.flight → FarApart b (l ∷ legs)
    → FliesFrom b arrival (slices_of (l ∷ legs)) (flat_map (λ part. part.flights) (parts_of q (l ∷ legs)))
flies b q arrival l [] h late far = (
  l.flight ∷ [],
  [],
  refl,
  record { few = omega arith; begins = h.0.from; ends = h.0.to; joined = tt; stops = tt; apart = ((h.0.apart, tt), (tt, tt)); window = h.0.window },
  late,
  refl,
)
flies b q arrival l (m ∷ legs) h late far = (
  l.flight ∷ [],
  flat_map (λ part. part.flights) (parts_of q (m ∷ legs)),
  refl,
  record { few = omega arith; begins = h.0.from; ends = h.0.to; joined = tt; stops = tt; apart = ((h.0.apart, tt), (tt, tt)); window = h.0.window },
  late,
  flies b q (Some l.flight.arr) m legs h.1 far.0 far.1,
)

pub are_parts : (b : Book) (q : Request) (legs : List Leg) → Each (LegHolds b q) legs → Matched (IsPart b q) (ticket_of legs).components (parts_of q legs)
are_parts b q [] h = tt
are_parts b q (l ∷ legs) h = (
  record {
    flights = (h.0.known, tt);
    stands = record { fare = h.0.fare; rule = h.0.rule; begins = (refl, refl); ends = (refl, refl); filed = h.0.filed; sale_is = refl };
    unit = refl;
  },
  are_parts b q legs h.1,
)

components : (b : Book) (q : Request) (legs : List Leg) → Each (LegHolds b q) legs → Each (λ part. ComponentLawful b q.party part.flights part.piece) (parts_of q legs)
components b q [] h = tt
components b q (l ∷ legs) h = (h.0.lawful, components b q legs h.1)

-- The ticket of these legs is lawful.
pub legs_lawful : (b : Book) (q : Request) (l : Leg) (legs : List Leg) → q.slices ≡ slices_of (l ∷ legs) → Each (LegHolds b q) (l ∷ legs) → FarApart b (l ∷ legs)
    → LawfulLabels (map (λ part. part.unit) (parts_of q (l ∷ legs)))
    → Each (λ part. UnitLawful (unit_of part.unit (parts_of q (l ∷ legs)))) (parts_of q (l ∷ legs))
    → Each (λ part. EndOnEndHolds (parts_of q (l ∷ legs)) part.piece) (parts_of q (l ∷ legs))
    → Lawful (ticket_of (l ∷ legs)) b q
legs_lawful b q l legs is h far labels units ends = (
  parts_of q (l ∷ legs),
  are_parts b q (l ∷ legs) h,
  record {
    journey = subst (λ sl. FliesFrom b None sl (flat_map (λ part. part.flights) (parts_of q (l ∷ legs)))) (sym is) (flies b q None l legs h tt far);
    components = components b q (l ∷ legs) h;
    numbered = labels.0;
    units = units;
    end_on_end = ends;
    straddling = labels.1;
  },
  λ e. cc,
)
