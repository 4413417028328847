-- The worked case of one flight and one fare: its root has one move, which ends the journey at the fare's amount.
use Rattle.std.proofs.Common.{◌≡◌, ◌≢◌, ℕ, pos, ◌+◌, ◌≤◌, Bool, true, false, List, [], ◌∷◌, Option, Some, None, cond, option_and_then, IfNone, sym, refl, ap, ◌∙◌, subst, inl, inr, arith, get_or}
use Rattle.std.proofs.lemmas.Int.{ints}
use Rattle.std.proofs.lemmas.List.Elements.{All-from_recursion}
use Rattle.certificate.specs.OneWay.{lon, nyc, qx, flight, fare, one_way_book, one_way_slice, one_way_request, one_way_root, one_way_move}
use Rattle.fare_law.specs.declared.fares.Fare.{Fare}
use Rattle.fare_law.specs.declared.fares.FareKey.{FareKey}
use Rattle.fare_law.specs.declared.filings.Action.TheVariants.{PutFare}
use Rattle.fare_law.specs.declared.flights.Flight.{Flight}
use Rattle.fare_law.specs.declared.moves.Move.{Move}
use Rattle.fare_law.specs.declared.moves.Role.{Role}
use Rattle.fare_law.specs.declared.moves.Role.TheVariants.{Alone, Opens, GoesOn, Closes}
use Rattle.fare_law.specs.declared.requests.Slice.{Slice}
use Rattle.fare_law.specs.declared.rules.Rule.{Rule}
use Rattle.fare_law.specs.declared.tickets.Piece.{Piece}
use Rattle.fare_law.specs.Book.{fare_put, flight_at, free_rule, live_fare, live_rule, same_key, seats}
use Rattle.fare_law.specs.Lists.{Each}
use Rattle.fare_law.specs.Parts.{price_of, share, stopover_charge, surcharges}
use Rattle.flight_paths.specs.declared.positions.Position.{Position}
use Rattle.flight_paths.specs.Positions.{Flies, KeepsOff, LeadsTo, Takes, called_at}
use Rattle.open_unit.specs.declared.units.OpenUnit.{OpenUnit}
use Rattle.open_unit.specs.OpenUnits.{opened}
use Rattle.residual_keys.specs.Residuals.{Moves, UnitStep}

nyc_lon : nyc ≢ lon
nyc_lon e = omega (arith, ap (λ p. get_or p.0 0 0) e)

-- the flight leads to the end of the journey

leads : (f : Flight) (s : Slice) (next : Option Position) → f ≡ flight → s ≡ one_way_slice → LeadsTo one_way_book one_way_request.slices s one_way_root.at f next → next ≡ None
leads f s next ef es (inl h) = h.1
leads f s next ef es (inr h) = absurd (h.0 (ap (λ z. z.to) ef ∙ sym (ap (λ z. z.to) es)))

ended : (ns : List ℕ) (fs : List Flight) (end : Option Position) → Flies one_way_book one_way_request.slices None ns fs end → (ns ≡ []) × (fs ≡ []) × (end ≡ None)
ended [] [] end h = (refl, refl, h)
ended [] (f ∷ fs) end h = absurd h
ended (n ∷ ns) [] end h = absurd h
ended (n ∷ ns) (f ∷ fs) end h = absurd h

flown : (ns : List ℕ) (fs : List Flight) (end : Option Position) → Flies one_way_book one_way_request.slices (Some one_way_root.at) ns fs end → ns ≢ [] → (ns ≡ 0 ∷ []) × (fs ≡ flight ∷ []) × (end ≡ None)
flown [] fs end h some = absurd (some refl)
flown (n ∷ ns) [] end h some = absurd h
flown (n ∷ ns) (f ∷ fs) end (s, is, takes, next, lead, rest) some =
    let zero : n ≡ 0 = omega (arith, takes.high) in
    let ef : f ≡ flight = same_flight f (subst (λ z. flight_at one_way_book z ≡ Some f) zero takes.known) in
    let es : s ≡ one_way_slice = same_slice s is in
    let en = leads f s next ef es lead in
    let e = ended ns fs end (subst (λ z. Flies one_way_book one_way_request.slices z ns fs end) en rest) in
    ((λ i. zero i ∷ e.0 i), (λ i. ef i ∷ e.1 i), e.2)
  where
    same_flight : (f : Flight) → Some flight ≡ Some f → f ≡ flight
    same_flight f e = cc

    same_slice : (s : Slice) → Some one_way_slice ≡ Some s → s ≡ one_way_slice
    same_slice s e = cc

-- the fare is the one that is filed

put_one : (test : Bool) (f : Fare) → option_and_then fare_put (cond test (Some (PutFare fare)) None) ≡ Some f → f ≡ fare
put_one true f e = cc
put_one false f e = absurd (none_some e)
  where
    none_some : None ≡ Some f → ⊥
    none_some e = cc

live_one : (key : FareKey) (f : Fare) → live_fare one_way_book key ≡ Some f → f ≡ fare
unfolding live_fare
live_one key f e = put_one (same_key key fare.key) f e

free_one : (r : Rule) → live_rule one_way_book qx 0 ≡ Some r → r ≡ free_rule
unfolding live_rule
free_one r e = cc

price_is : (fs : List Flight) (p : Piece) → fs ≡ flight ∷ [] → p.fare ≡ fare → p.rule ≡ free_rule → price_of fs p ≡ 20000
price_is fs p es ef er = λ i. share (ef i).kind (ef i).amount + stopover_charge (er i) (es i) + surcharges (er i).cat12 (es i)

-- it stands alone, as no unit is open at either end

stands_alone : (role : Role) (slot : ℕ) (p : Piece) (us : List OpenUnit) → UnitStep role slot [] p us → us ≡ [] → (role ≡ Alone) × (slot ≡ 0)
stands_alone Alone slot p us h e = (refl, h.0)
stands_alone Opens slot p us h e = absurd (some_none (sym h.3 ∙ e))
  where
    some_none : opened p ∷ [] ≡ [] → ⊥
    some_none e = cc
stands_alone GoesOn slot p us h e = absurd (none_some h.0 h.1)
  where
    none_some : (u : OpenUnit) → None ≡ Some u → ⊥
    none_some u e = cc
stands_alone Closes slot p us h e = absurd (none_some h.0 h.1)
  where
    none_some : (u : OpenUnit) → None ≡ Some u → ⊥
    none_some u e = cc

-- Each move of the root is this one, ends the journey, and costs the fare's amount.
pub only_move : (m : Move) (fs : List Flight) (p : Piece) (next : Option Position) (us : List OpenUnit) → Moves one_way_book one_way_request one_way_root m fs p next us → (m ≡ one_way_move) × (next ≡ None) × (price_of fs p ≡ 20000)
only_move m fs p next us mv =
    let fl = flown m.flights fs next mv.path.flies mv.path.some in
    let ef = live_one p.fare.key p.fare mv.stands.fare in
    let er = free_one p.rule (subst (λ z. live_rule one_way_book z.key.carrier z.rule ≡ Some p.rule) ef mv.stands.rule) in
    let alone = stands_alone m.role m.slot p us mv.units (subst (λ z. IfNone z (us ≡ [])) fl.2 mv.done) in
    let carrier = mv.carrier ∙ ap (λ f. f.key.carrier) ef in
    let basis = mv.basis ∙ ap (λ f. f.key.basis) ef in
    ((λ i. record { flights = fl.0 i; carrier = carrier i; basis = basis i; role = alone.0 i; slot = alone.1 i }), fl.2, price_is fs p fl.1 ef er)

abbrev pub one_way_piece : Piece
one_way_piece = record { begin = lon; end = nyc; fare = fare; rule = free_rule; reverse = false; first_day = pos 22341; last_day = pos 22341; sale = pos 22311 }

has_seats : 1 ≤ seats one_way_book flight 24
unfolding seats
has_seats = omega arith

fare_lives : live_fare one_way_book fare.key ≡ Some fare
unfolding live_fare
fare_lives = refl

rule_lives : live_rule one_way_book qx 0 ≡ Some free_rule
unfolding live_rule
rule_lives = refl

taken : Takes one_way_book one_way_slice one_way_root.at 0 flight
taken = record {
  few = omega arith;
  known = refl;
  departs = refl;
  low = omega arith;
  high = omega arith;
  window = λ z. (omega (arith, ints), omega (arith, ints));
  not_origin = nyc_lon;
  not_here = nyc_lon;
  not_via = tt;
}

keeps_off : (s : Slice) → Some one_way_slice ≡ Some s → Each (KeepsOff s (flight ∷ [])) (called_at s one_way_root.at)
keeps_off s e =
    let same : one_way_slice ≡ s = cc in
    subst (λ z. Each (KeepsOff z (flight ∷ [])) (called_at z one_way_root.at)) same ((nyc_lon, λ z. tt), ((nyc_lon, λ z. tt), tt))

-- The root has the move.
pub root_move : Moves one_way_book one_way_request one_way_root one_way_move (flight ∷ []) one_way_piece None []
root_move = record {
  path = record {
    some = λ e. cc;
    flies = (one_way_slice, refl, taken, None, inl (refl, refl), refl);
    shape = record { few = omega arith; joined = tt; apart = ((λ e. nyc_lon (sym e), tt), (tt, tt)) };
    called = keeps_off;
  };
  stands = record { fare = fare_lives; rule = rule_lives; begins = (refl, refl); ends = (refl, refl); filed = (refl, refl); sale_is = refl };
  carrier = refl;
  basis = refl;
  lawful = record {
    shape = record { few = omega arith; joined = tt; apart = ((λ e. nyc_lon (sym e), tt), (tt, tt)) };
    seated = All-from_recursion (λ f. 1 ≤ seats one_way_book f 24) (flight ∷ []) (has_seats, tt);
    day_time = tt;
    flights = tt;
    stopovers = tt;
    transfers = refl;
  };
  units = (refl, record { forward = refl; stands = tt; kind = refl; days = record { season = tt; advance = tt; travel = tt }; by = tt }, refl);
  part = (λ h. absurd (omega (arith, h)), λ h. absurd (omega (arith, h)));
  done = refl;
}
