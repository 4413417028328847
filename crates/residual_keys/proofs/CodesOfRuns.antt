-- The code of a run from the root is the code of its moves: their flights are the timetable's, their slots 0 and 1, and their names those of live fares.
use Rattle.std.proofs.Common.{◌≡◌, ℕ, ◌≤◌, ◌<◌, ◌^◌, List, [], ◌∷◌, length, set, length-set, length-append, Option, Some, None, refl, sym, subst, arith}
use Rattle.fare_law.specs.declared.limits.TheConstants.{MOST_DATED_FLIGHTS}
use Rattle.fare_law.specs.declared.flights.Flight.{Flight}
use Rattle.fare_law.specs.declared.moves.Move.{Move}
use Rattle.fare_law.specs.declared.moves.Role.{Role}
use Rattle.fare_law.specs.declared.moves.Role.TheVariants.{Alone, Opens, GoesOn, Closes}
use Rattle.fare_law.specs.declared.requests.Request.{Request}
use Rattle.fare_law.specs.declared.requests.Slice.{Slice}
use Rattle.fare_law.specs.declared.tickets.Piece.{Piece}
use Rattle.fare_law.specs.Book.{Book}
use Rattle.fare_law.specs.Lists.{Each}
use Rattle.fare_law.specs.Codes.{run_code}
use Rattle.fare_law.specs.Limits.{HasKeys}
use Rattle.fare_law.specs.declared.limits.TheConstants.{MOST_SLICES}
use Rattle.flight_paths.specs.declared.positions.Position.{Position}
use Rattle.flight_paths.specs.Positions.{Flies}
use Rattle.open_unit.specs.declared.units.OpenUnit.{OpenUnit}
use Rattle.open_unit.specs.OpenUnits.{gone_on, opened}
use Rattle.ticket_order.specs.Coding.{Coded, IsCodeOf, IsMove}
use Rattle.residual_keys.specs.Residuals.{Moves, Run, RunFromRoot, State, UnitStep, begins, no_part, part_with}
use Rattle.residual_keys.proofs.NamesKept.{remove_few}
use Rattle.residual_keys.proofs.OneNext.{run_has_keys}
use Rattle.residual_keys.proofs.Short.{root_run_short}
use Rattle.law_lemmas.proofs.Lists.{got_within}

-- a step of at most two open units leaves at most two, and its slot is one of two
step_few : (role : Role) (slot : ℕ) (us : List OpenUnit) (p : Piece) (us' : List OpenUnit) → length us ≤ 2 → UnitStep role slot us p us' → (slot < 2) × (length us' ≤ 2)
step_few Alone slot us p us' few s = (omega (arith, s.0), subst (λ xs. length xs ≤ 2) (sym s.2) few)
step_few Opens slot us p us' few s = (omega (arith, s.0), subst (λ xs. length xs ≤ 2) (sym s.3) (omega (arith, length-append us (opened p ∷ []), s.2)))
step_few GoesOn slot us p us' few s = (omega (arith, few, got_within us slot s.0 s.1), subst (λ xs. length xs ≤ 2) (sym s.3) (kept few))
  where
    kept : length us ≤ 2 → length (set us slot (gone_on s.0 p)) ≤ 2
    kept h = rw length-set h
step_few Closes slot us p us' few s = (omega (arith, few, got_within us slot s.0 s.1), subst (λ xs. length xs ≤ 2) (sym s.3) (omega (arith, few, remove_few us slot (got_within us slot s.0 s.1))))

-- the numbers of flights that lead on are the timetable's, as many as the flights
numbers_small : (b : Book) (sl : List Slice) (start : Option Position) (ns : List ℕ) (fs : List Flight) (end : Option Position) → length b.timetable.flights ≤ MOST_DATED_FLIGHTS → Flies b sl start ns fs end
    → Each (λ n. n < 2 ^ 32) ns × (length ns ≡ length fs)
numbers_small b sl start [] [] end few h = (tt, refl)
numbers_small b sl start [] (f ∷ fs) end few h = absurd h
numbers_small b sl start (n ∷ ns) [] end few h = absurd h
numbers_small b sl None (n ∷ ns) (f ∷ fs) end few h = absurd h
numbers_small b sl (Some at) (n ∷ ns) (f ∷ fs) end few (s, is, t, next, leads, rest) =
    let r = numbers_small b sl next ns fs end few rest in
    ((omega (arith, few, got_within b.timetable.flights n f t.known), r.0), omega (arith, r.1))

move_fits : (b : Book) (q : Request) (x : State) (m : Move) (fs : List Flight) (p : Piece) (next : Option Position) (us : List OpenUnit) → length b.timetable.flights ≤ MOST_DATED_FLIGHTS → length x.units ≤ 2 → Coded m → Moves b q x m fs p next us
    → IsMove m × (length us ≤ 2)
move_fits b q x m fs p next us few two coded h =
    let n = numbers_small b q.slices (Some x.at) m.flights fs next few h.path.flies in
    let s = step_few m.role m.slot x.units p us two h.units in
    let k = h.lawful.shape.few in
    (record { few = omega (arith, n.1, k); flights = n.0; slot = omega (arith, s.0); coded = coded }, s.1)

moves_fit : (b : Book) (q : Request) (ms : List Move) (x : State) (price : ℕ) → length b.timetable.flights ≤ MOST_DATED_FLIGHTS → length x.units ≤ 2 → Each Coded ms → Run b q x ms price → Each IsMove ms
moves_fit b q [] x price few two c run = absurd run
moves_fit b q (m ∷ []) x price few two c (fs, p, mv, e) = ((move_fits b q x m fs p None [] few two c.0 mv).0, tt)
moves_fit b q (m ∷ n ∷ ms) x price few two c (fs, p, at, us, rest, mv, run, e) =
    let f = move_fits b q x m fs p (Some at) us few two c.0 mv in
    (f.0, moves_fit b q (n ∷ ms) (record { at = at; units = us; part = part_with x.part (begins m.role) p }) rest few f.1 c.1 run)

pub run_has_code : (b : Book) (q : Request) → HasKeys b → length b.timetable.flights ≤ MOST_DATED_FLIGHTS → length q.slices ≤ MOST_SLICES → (ms : List Move) (price : ℕ) → RunFromRoot b q ms price → IsCodeOf (run_code ms) ms
run_has_code b q keys few six ms price run = record {
  few = omega (arith, six, root_run_short b q ms price run);
  each =
      let x : State = record { at = run.0; units = []; part = no_part } in
      moves_fit b q ms x price few (omega arith) (run_has_keys b q keys x ms price run.2) run.2;
  code_is = refl;
}
