-- The fare that a move names on its flights, and the component over it. Given on to the crates above.
use Rattle.std.proofs.Common.{◌≡◌, ℕ, ◌≤◌, ◌<◌, Bool, true, false, List, [], ◌∷◌, All, IsBitSet, MatchBool, Option, Some, sym, ap, ◌∙◌, subst, inl, inr}
use Rattle.std.proofs.lemmas.List.Elements.{All-cons, All-head, All-nil, All-tail}
use Rattle.fare_law.specs.declared.fares.FareKey.{FareKey}
use Rattle.fare_law.specs.declared.flights.Flight.{Flight}
use Rattle.fare_law.specs.declared.moves.Move.{Move}
use Rattle.fare_law.specs.declared.requests.Request.{Request}
use Rattle.fare_law.specs.declared.sheets.Leg.{Leg}
use Rattle.fare_law.specs.declared.sheets.SheetRow.{SheetRow}
use Rattle.fare_law.specs.declared.tickets.Piece.{Piece}
use Rattle.fare_law.specs.Book.{Book, live_fare, live_rule, seats}
use Rattle.fare_law.specs.Lists.{Matched, OnFirst, OnLast}
use Rattle.fare_law.specs.Offers.{FiledBetween, HasDirection, IsOffered, flights_of}
use Rattle.fare_law.specs.Parts.{ComponentLawful, DayTimeHolds, Filed, FlightsHold, Seated, Shape, StandsFor, StopoversHold, TransfersHold}
use Rattle.flight_paths.specs.declared.positions.Position.{Position}
use Rattle.open_unit.specs.declared.units.OpenUnit.{OpenUnit}
use Rattle.residual_keys.specs.AskedKeys.{IsLeg}
use Rattle.residual_keys.specs.Residuals.{Moves, State, closes}
use Rattle.residual_keys.specs.Steps.{IsLiveOn, KeyOn}
use Rattle.residual_keys.proofs.Components.{on_ends}
use Rattle.residual_keys.proofs.OneNext.{direction, filed_ends, last_one}
use Rattle.law_lemmas.proofs.Ends.{last_like}

-- a key of a move's fare, filed between the ends of its flights
pub key_stands : (m : Move) (fs : List Flight) (first last : Flight) (key : FareKey) (r : Bool) → closes m.role ≡ r → OnFirst (λ f. first ≡ f) fs → OnLast (λ f. last ≡ f) fs
    → key.carrier ≡ m.carrier → key.basis ≡ m.basis → MatchBool r ((key.from ≡ last.to) × (key.to ≡ first.from)) ((key.from ≡ first.from) × (key.to ≡ last.to)) → KeyOn m fs key
key_stands m fs first last key r e a b c d h = record {
  carrier = c;
  basis = d;
  ends = on_ends (λ f z. MatchBool (closes m.role) ((key.from ≡ z.to) × (key.to ≡ f.from)) ((key.from ≡ f.from) × (key.to ≡ z.to))) first last fs a b
      (subst (λ t. MatchBool t ((key.from ≡ last.to) × (key.to ≡ first.from)) ((key.from ≡ first.from) × (key.to ≡ last.to))) (sym e) h);
}

-- the key of a move on its flights is one
pub keys_one : (m : Move) (fs : List Flight) (k l : FareKey) → KeyOn m fs k → KeyOn m fs l → k ≡ l
keys_one m [] k l h g = absurd h.ends
keys_one m (f ∷ fs) k l h g =
    last_one (λ z. MatchBool (closes m.role) ((k.from ≡ z.to) × (k.to ≡ f.from)) ((k.from ≡ f.from) × (k.to ≡ z.to))) (λ z. MatchBool (closes m.role) ((l.from ≡ z.to) × (l.to ≡ f.from)) ((l.from ≡ f.from) × (l.to ≡ z.to))) (k ≡ l)
    (λ z x y. both (closes m.role) z x y) (f ∷ fs) h.ends g.ends
  where
    key_is : k.from ≡ l.from → k.to ≡ l.to → k ≡ l
    key_is a b =
        let c : k.carrier ≡ l.carrier = h.carrier ∙ sym g.carrier in
        let d : k.basis ≡ l.basis = h.basis ∙ sym g.basis in
        λ i. record { carrier = c i; from = a i; to = b i; basis = d i }

    both : (r : Bool) (z : Flight) → MatchBool r ((k.from ≡ z.to) × (k.to ≡ f.from)) ((k.from ≡ f.from) × (k.to ≡ z.to)) → MatchBool r ((l.from ≡ z.to) × (l.to ≡ f.from)) ((l.from ≡ f.from) × (l.to ≡ z.to)) → k ≡ l
    both true z x y = key_is (x.0 ∙ sym y.0) (x.1 ∙ sym y.1)
    both false z x y = key_is (x.0 ∙ sym y.0) (x.1 ∙ sym y.1)

-- what holds of the first and of the last flight
pub two_ends : (P Q : Flight → Type 0) (R : Flight → Flight → Type 0) (fs : List Flight) → OnFirst P fs → OnLast Q fs → ((f z : Flight) → P f → Q z → R f z) → OnFirst (λ f. OnLast (λ z. R f z) fs) fs
two_ends P Q R [] a b to = absurd a
two_ends P Q R (f ∷ fs) a b to = last_like Q (λ z. R f z) (f ∷ fs) b (λ z k. to f z a k)

-- a move's fare has the key that the move names
pub moves_key : (b : Book) (q : Request) (r : State) (m : Move) (fs : List Flight) (p : Piece) (next : Option Position) (us : List OpenUnit) → Moves b q r m fs p next us → KeyOn m fs p.fare.key
moves_key b q r m fs p next us h = record {
  carrier = sym h.carrier;
  basis = sym h.basis;
  ends = two_ends (λ f. (p.begin ≡ f.from) × (p.first_day ≡ f.day)) (λ f. (p.end ≡ f.to) × (p.last_day ≡ f.day))
      (λ f z. MatchBool (closes m.role) ((p.fare.key.from ≡ z.to) × (p.fare.key.to ≡ f.from)) ((p.fare.key.from ≡ f.from) × (p.fare.key.to ≡ z.to))) fs h.stands.begins h.stands.ends
      (λ f z x y. of (closes m.role) f z (direction m.role m.slot r.units us p h.units) x.0 y.0);
}
  where
    of : (c : Bool) (f z : Flight) → p.reverse ≡ c → p.begin ≡ f.from → p.end ≡ z.to → MatchBool c ((p.fare.key.from ≡ z.to) × (p.fare.key.to ≡ f.from)) ((p.fare.key.from ≡ f.from) × (p.fare.key.to ≡ z.to))
    of true f z e x y = let k = filed_ends p true e h.stands.filed in (k.0 ∙ y, k.1 ∙ x)
    of false f z e x y = let k = filed_ends p false e h.stands.filed in (k.0 ∙ x, k.1 ∙ y)

-- a component over a row's fare on a move's flights
pub record IsOver (q : Request) (m : Move) (fs : List Flight) (row : SheetRow) (p : Piece) : Type 0 where
  pub begins : OnFirst (λ f. (p.begin ≡ f.from) × (p.first_day ≡ f.day)) fs
  pub ends : OnLast (λ f. (p.end ≡ f.to) × (p.last_day ≡ f.day)) fs
  pub fare : p.fare ≡ row.fare
  pub rule : p.rule ≡ row.rule
  pub reverse : p.reverse ≡ closes m.role
  pub sale : p.sale ≡ q.sale

pub row_stands : (b : Book) (q : Request) (m : Move) (fs : List Flight) (row : SheetRow) (p : Piece) → IsLiveOn b m fs row → IsOver q m fs row p → StandsFor b q.sale p.fare.key fs p
row_stands b q m fs row p l o = record {
  fare = ap (λ f. live_fare b f.key) o.fare ∙ l.fare ∙ ap Some (sym o.fare);
  rule = ap (λ f. live_rule b f.key.carrier f.rule) o.fare ∙ l.rule ∙ ap Some (sym o.rule);
  begins = o.begins;
  ends = o.ends;
  filed = filed fs l.key.ends o.begins o.ends;
  sale_is = o.sale;
}
  where
    of : (c : Bool) (f z : Flight) → p.reverse ≡ c → MatchBool c ((row.fare.key.from ≡ z.to) × (row.fare.key.to ≡ f.from)) ((row.fare.key.from ≡ f.from) × (row.fare.key.to ≡ z.to)) → p.begin ≡ f.from → p.end ≡ z.to → Filed p
    of true f z e k x y = subst (λ t. MatchBool t ((p.fare.key.from ≡ p.end) × (p.fare.key.to ≡ p.begin)) ((p.fare.key.from ≡ p.begin) × (p.fare.key.to ≡ p.end))) (sym e) (ap (λ g. g.key.from) o.fare ∙ k.0 ∙ sym y, ap (λ g. g.key.to) o.fare ∙ k.1 ∙ sym x)
    of false f z e k x y = subst (λ t. MatchBool t ((p.fare.key.from ≡ p.end) × (p.fare.key.to ≡ p.begin)) ((p.fare.key.from ≡ p.begin) × (p.fare.key.to ≡ p.end))) (sym e) (ap (λ g. g.key.from) o.fare ∙ k.0 ∙ sym x, ap (λ g. g.key.to) o.fare ∙ k.1 ∙ sym y)

    filed : (gs : List Flight) → OnFirst (λ f. OnLast (λ z. MatchBool (closes m.role) ((row.fare.key.from ≡ z.to) × (row.fare.key.to ≡ f.from)) ((row.fare.key.from ≡ f.from) × (row.fare.key.to ≡ z.to))) gs) gs
        → OnFirst (λ f. (p.begin ≡ f.from) × (p.first_day ≡ f.day)) gs → OnLast (λ f. (p.end ≡ f.to) × (p.last_day ≡ f.day)) gs → Filed p
    filed [] k x y = absurd x
    filed (f ∷ gs) k x y = last_one (λ z. MatchBool (closes m.role) ((row.fare.key.from ≡ z.to) × (row.fare.key.to ≡ f.from)) ((row.fare.key.from ≡ f.from) × (row.fare.key.to ≡ z.to))) (λ z. (p.end ≡ z.to) × (p.last_day ≡ z.day)) (Filed p)
        (λ z u v. of (closes m.role) f z o.reverse u x.0 v.0) (f ∷ gs) k y

-- the fare is filed between the ends
pub key_directed : (m : Move) (fs : List Flight) (key : FareKey) → KeyOn m fs key → HasDirection key fs
key_directed m [] key h = absurd h.ends
key_directed m (f ∷ fs) key h = last_like (λ z. MatchBool (closes m.role) ((key.from ≡ z.to) × (key.to ≡ f.from)) ((key.from ≡ f.from) × (key.to ≡ z.to))) (λ z. FiledBetween key f.from z.to) (f ∷ fs) h.ends (λ z k. of (closes m.role) z k)
  where
    of : (c : Bool) (z : Flight) → MatchBool c ((key.from ≡ z.to) × (key.to ≡ f.from)) ((key.from ≡ f.from) × (key.to ≡ z.to)) → FiledBetween key f.from z.to
    of true z k = inr k
    of false z k = inl k

-- seats of legs
module _ (b : Book) (party class : ℕ) (lt : class < 32) where
  pub seats_open : (fs : List Flight) (legs : List Leg) → Matched (IsLeg b party) fs legs → Seated b party class fs → All (λ leg. IsBitSet leg.classes class) legs
  seats_open [] [] h s = All-nil (λ leg. IsBitSet leg.classes class)
  seats_open [] (l ∷ legs) h s = absurd h
  seats_open (f ∷ fs) [] h s = absurd h
  seats_open (f ∷ fs) (l ∷ legs) h s = All-cons (λ leg. IsBitSet leg.classes class) l legs ((h.0.classes class lt).1 (All-head (λ g. party ≤ seats b g class) f fs s)) (seats_open fs legs h.1 (All-tail (λ g. party ≤ seats b g class) f fs s))

  pub open_seats : (fs : List Flight) (legs : List Leg) → Matched (IsLeg b party) fs legs → All (λ leg. IsBitSet leg.classes class) legs → Seated b party class fs
  open_seats [] [] h s = All-nil (λ g. party ≤ seats b g class)
  open_seats [] (l ∷ legs) h s = absurd h
  open_seats (f ∷ fs) [] h s = absurd h
  open_seats (f ∷ fs) (l ∷ legs) h s = All-cons (λ g. party ≤ seats b g class) f fs ((h.0.classes class lt).0 (All-head (λ leg. IsBitSet leg.classes class) l legs s)) (open_seats fs legs h.1 (All-tail (λ leg. IsBitSet leg.classes class) l legs s))

-- a fare may be had on the legs, and its rule permits them, exactly where the component is lawful
module _ (b : Book) (party : ℕ) (fs : List Flight) (legs : List Leg) (row : SheetRow) (p : Piece) (matched : Matched (IsLeg b party) fs legs) (same : flights_of legs ≡ fs) (fare : p.fare ≡ row.fare) (rule : p.rule ≡ row.rule) (lt : row.fare.class < 32) where
  pub offered_lawful : Shape fs → IsOffered legs row → ComponentLawful b party fs p
  offered_lawful shape o = record {
    shape = shape;
    seated = subst (λ (f : _). Seated b party f.class fs) (sym fare) (open_seats b party row.fare.class lt fs legs matched o.seats);
    day_time = subst (λ r. OnFirst (DayTimeHolds r) fs) (sym rule) (subst (OnFirst (DayTimeHolds row.rule)) same o.day_time);
    flights = subst (λ r. FlightsHold r fs) (sym rule) (subst (FlightsHold row.rule) same o.flights);
    stopovers = subst (λ r. StopoversHold r fs) (sym rule) (subst (StopoversHold row.rule) same o.stopovers);
    transfers = subst (λ f. TransfersHold p.rule f.key.carrier fs) (sym fare) (subst (λ r. TransfersHold r row.fare.key.carrier fs) (sym rule) (subst (TransfersHold row.rule row.fare.key.carrier) same o.transfers));
  }

  pub lawful_offered : HasDirection row.fare.key fs → ComponentLawful b party fs p → IsOffered legs row
  lawful_offered directed h = record {
    direction = subst (HasDirection row.fare.key) (sym same) directed;
    seats = seats_open b party row.fare.class lt fs legs matched (subst (λ (f : _). Seated b party f.class fs) fare h.seated);
    day_time = subst (OnFirst (DayTimeHolds row.rule)) (sym same) (subst (λ r. OnFirst (DayTimeHolds r) fs) rule h.day_time);
    flights = subst (FlightsHold row.rule) (sym same) (subst (λ r. FlightsHold r fs) rule h.flights);
    stopovers = subst (StopoversHold row.rule) (sym same) (subst (λ r. StopoversHold r fs) rule h.stopovers);
    transfers = subst (TransfersHold row.rule row.fare.key.carrier) (sym same) (subst (λ r. TransfersHold r row.fare.key.carrier fs) rule (subst (λ f. TransfersHold p.rule f.key.carrier fs) fare h.transfers));
  }
