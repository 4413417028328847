-- Runs are short.
use Rattle.std.proofs.Common.{◌≡◌, ℕ, suc, ◌+◌, ◌*◌, ◌≤◌, List, [], ◌∷◌, length, flat_map, slice_get, Option, Some, None, sym, refl, subst, inl, inr, arith, length-append}
use Rattle.std.proofs.lemmas.Bool.{cases_order}
use Rattle.fare_law.specs.declared.flights.Flight.{Flight}
use Rattle.fare_law.specs.declared.moves.Move.{Move}
use Rattle.fare_law.specs.declared.requests.Request.{Request}
use Rattle.fare_law.specs.declared.requests.Slice.{Slice}
use Rattle.fare_law.specs.declared.tickets.Piece.{Piece}
use Rattle.fare_law.specs.Book.{Book}
use Rattle.fare_law.specs.declared.limits.TheConstants.{MOST_COMPONENTS_OF_A_SLICE}
use Rattle.flight_paths.specs.declared.positions.Position.{Position}
use Rattle.flight_paths.specs.Positions.{IsPath, Flies, LeadsTo, before_slice}
use Rattle.open_unit.specs.declared.units.OpenUnit.{OpenUnit}
use Rattle.residual_keys.specs.Residuals.{State, Moves, Run, RunFromRoot, begins, part_with, no_part}
use Rattle.residual_keys.specs.Short.{flights_before, Earlier}
use Rattle.law_lemmas.proofs.Lists.{got_within, some_length}

-- how many flights lead on
LegEnd : Option Position → Type 0
LegEnd None = Unit {0}
LegEnd (Some at) = at.leg ≤ 2

leads_on : (b : Book) (q : Request) (s : Slice) (at : Position) (f : Flight) (next : Option Position) → slice_get q.slices at.slice ≡ Some s → at.leg ≤ 2 → LeadsTo b q.slices s at f next
    → (suc (flights_before q (Some at)) ≤ flights_before q next) × LegEnd next
unfolding LegEnd
leads_on b q s at f next is le (inl h) =
    subst (λ z. (suc (flights_before q (Some at)) ≤ flights_before q z) × LegEnd z) (sym h.1) (go (slice_get q.slices (suc at.slice)))
  where
    go : (o : Option Slice) → (suc (flights_before q (Some at)) ≤ flights_before q (before_slice b (suc at.slice) o (Some f.arr))) × LegEnd (before_slice b (suc at.slice) o (Some f.arr))
    go None = (omega (arith, le, got_within q.slices at.slice s is), tt)
    go (Some t) = (omega (arith, le), omega arith)
leads_on b q s at f next is le (inr h) =
    subst (λ z. (suc (flights_before q (Some at)) ≤ flights_before q z) × LegEnd z) (sym h.2) (omega (arith, h.1), omega (arith, h.1))

-- one flight and those after it
flies_on : (b : Book) (q : Request) (at : Position) (n : ℕ) (ns : List ℕ) (fs : List Flight) (end : Option Position) → Flies b q.slices (Some at) (n ∷ ns) fs end
    → (length (n ∷ ns) + flights_before q (Some at) ≤ flights_before q end) × LegEnd end
flies_on b q at n ns [] end h = absurd h
flies_on b q at n [] (f ∷ []) end (s, is, t, next, leads, rest) =
    let one = leads_on b q s at f next is t.few leads in
    subst (λ z. (length (n ∷ []) + flights_before q (Some at) ≤ flights_before q z) × LegEnd z) (sym rest) (omega (arith, one.0), one.1)
flies_on b q at n [] (f ∷ g ∷ fs) end (s, is, t, next, leads, rest) = absurd rest
flies_on b q at n (m ∷ ns) (f ∷ []) end (s, is, t, next, leads, rest) = absurd rest
flies_on b q at n (m ∷ ns) (f ∷ g ∷ fs) end (s, is, t, None, leads, rest) = absurd rest
flies_on b q at n (m ∷ ns) (f ∷ g ∷ fs) end (s, is, t, Some to, leads, rest) =
    let one = leads_on b q s at f (Some to) is t.few leads in
    let more = flies_on b q to m ns (g ∷ fs) end rest in
    (omega (arith, one.0, more.0), more.1)

pub flies_few : (b : Book) (q : Request) (at : Position) (ns : List ℕ) (fs : List Flight) (end : Option Position) → Flies b q.slices (Some at) ns fs end → length ns + flights_before q (Some at) ≤ flights_before q end
flies_few b q at [] [] end h = subst (λ z. 0 + flights_before q (Some at) ≤ flights_before q z) (sym h) (omega arith)
flies_few b q at [] (f ∷ fs) end h = absurd h
flies_few b q at (n ∷ ns) fs end h = (flies_on b q at n ns fs end h).0

path_on : (b : Book) (q : Request) (at : Position) (ns : List ℕ) (fs : List Flight) (end : Option Position) → IsPath b q.slices at ns fs end → (length ns + flights_before q (Some at) ≤ flights_before q end) × LegEnd end
path_on b q at [] fs end h = absurd (h.some refl)
path_on b q at (n ∷ ns) fs end h = flies_on b q at n ns fs end h.flies

leg_of : (b : Book) (q : Request) (at : Position) (ns : List ℕ) (fs : List Flight) (end : Option Position) → IsPath b q.slices at ns fs end → at.leg ≤ 2
leg_of b q at [] fs end h = absurd (h.some refl)
leg_of b q at (n ∷ ns) [] end h = absurd h.flies
leg_of b q at (n ∷ ns) (f ∷ fs) end h = h.flies.2.few

pub move_goes_on : (b : Book) (q : Request) (x : State) (m : Move) (fs : List Flight) (p : Piece) (at : Position) (us : List OpenUnit) → Moves b q x m fs p (Some at) us → Earlier x.at at × (at.leg ≤ 2)
unfolding LegEnd
move_goes_on b q x m fs p at us mv =
    let r = path_on b q x.at m.flights fs (Some at) mv.path in
    let some = some_length m.flights mv.path.some in
    let le = leg_of b q x.at m.flights fs (Some at) mv.path in (
      elim (cases_order x.at.slice at.slice) [
        | inl e ↦ inr (e, omega (arith, r.0, some, e))
        | inr o ↦ elim o [ inl lt ↦ inl lt | inr gt ↦ absurd (omega (arith, r.0, r.1, some, gt)) ]
      ],
      r.1,
    )

pub run_short : (b : Book) (q : Request) (x : State) (ms : List Move) (price : ℕ) → Run b q x ms price
    → (length ms ≤ length (flat_map (λ m. m.flights) ms)) × (length (flat_map (λ m. m.flights) ms) + flights_before q (Some x.at) ≤ 3 * length q.slices)
run_short b q x [] price run = absurd run
run_short b q x (m ∷ []) price (fs, p, mv, e) =
    let r = path_on b q x.at m.flights fs None mv.path in
    (omega (arith, some_length m.flights mv.path.some, length-append m.flights []), omega (arith, r.0, length-append m.flights []))
run_short b q x (m ∷ n ∷ ms) price (fs, p, at, us, rest, mv, run, e) =
    let r = path_on b q x.at m.flights fs (Some at) mv.path in
    let k = run_short b q (record { at = at; units = us; part = part_with x.part (begins m.role) p }) (n ∷ ms) rest run in
    let both = length-append m.flights (flat_map (λ k. k.flights) (n ∷ ms)) in
    (omega (arith, some_length m.flights mv.path.some, k.0, both), omega (arith, r.0, k.1, both))

pub root_run_short : (b : Book) (q : Request) (ms : List Move) (price : ℕ) → RunFromRoot b q ms price → length ms ≤ MOST_COMPONENTS_OF_A_SLICE * length q.slices
root_run_short b q ms price (at, root, run) =
    let r = run_short b q (record { at = at; units = []; part = no_part }) ms price run in
    omega (arith, r.0, r.1)
