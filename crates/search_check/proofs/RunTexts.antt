-- What the answers and the rows of a search's certificate need for their lines: what runs cost, and that each move has a flight.
use Rattle.std.proofs.Common.{ℕ, ◌*◌, ◌≤◌, List, [], ◌∷◌, length, Option, Some, None, arith}
use Rattle.certificate_text.specs.Lines.{IsMove}
use Rattle.fare_book.specs.Keeping.{Limited}
use Rattle.fare_law.specs.declared.flights.Flight.{Flight}
use Rattle.fare_law.specs.declared.moves.Move.{Move}
use Rattle.fare_law.specs.declared.requests.Request.{Request}
use Rattle.fare_law.specs.declared.rules.Rule.{Rule}
use Rattle.fare_law.specs.declared.tickets.Piece.{Piece}
use Rattle.fare_law.specs.Book.{Book}
use Rattle.fare_law.specs.Lists.{Each}
use Rattle.fare_law.specs.Parts.{price_of, stopover_charge, surcharges}
use Rattle.fare_law.specs.RuleLimits.{IsRule}
use Rattle.flight_paths.specs.declared.positions.Position.{Position}
use Rattle.open_unit.specs.declared.units.OpenUnit.{OpenUnit}
use Rattle.residual_keys.specs.Residuals.{Moves, Run, State, begins, part_with}
use Rattle.law_lemmas.proofs.LawFacts.{low_share}
use Rattle.law_lemmas.proofs.Lists.{some_length}
use Rattle.ticket_order.specs.Coding as coding

-- what stopovers and surcharges cost at most
pub record LowCharges : Type 0 where
  pub charged : (r : Rule) (fs : List Flight) → IsRule r → length fs ≤ 4 → stopover_charge r fs ≤ 3000000
  pub surcharged : (r : Rule) (fs : List Flight) → IsRule r → length fs ≤ 4 → surcharges r.cat12 fs ≤ 32000000

module _ (b : Book) (q : Request) (limited : Limited b) (low : LowCharges) where
  -- no move costs 2^32
  move_cheap : (x : State) (m : Move) (fs : List Flight) (p : Piece) (after : Option Position) (us : List OpenUnit) → Moves b q x m fs p after us → price_of fs p ≤ 4294967296
  move_cheap x m fs p after us h =
      let fare = (limited.fares p.fare.key p.fare h.stands.fare).1 in
      let rule = limited.rules p.fare.key.carrier p.fare.rule p.rule h.stands.rule in
      let few = h.lawful.shape.few in
      let one = low_share p.fare.kind p.fare.amount fare.amount in
      let two = low.charged p.rule fs rule few in
      let three = low.surcharged p.rule fs rule few in
      omega (arith, one, two, three)

  pub run_cheap : (ms : List Move) (x : State) (price : ℕ) → Run b q x ms price → price ≤ 4294967296 * length ms
  run_cheap [] x price run = absurd run
  run_cheap (m ∷ []) x price (fs, p, mv, e) = let l = move_cheap x m fs p None [] mv in omega (arith, l, e)
  run_cheap (m ∷ n ∷ ms) x price (fs, p, at, us, rest, mv, run, e) =
      let l = move_cheap x m fs p (Some at) us mv in
      let r = run_cheap (n ∷ ms) (record { at = at; units = us; part = part_with x.part (begins m.role) p }) rest run in
      omega (arith, l, r, e)

spelled : (m : Move) → 1 ≤ length m.flights → coding.IsMove m → IsMove m
spelled m some h = record { count = (some, h.few); flights = h.flights; carrier = h.coded.0; basis = h.coded.1; slot = h.slot }

-- each move has a flight, and else what a code needs is what a line needs
pub moves_spelled : (b : Book) (q : Request) (ms : List Move) (x : State) (price : ℕ) → Run b q x ms price → Each coding.IsMove ms → Each IsMove ms
moves_spelled b q [] x price run fit = absurd run
moves_spelled b q (m ∷ []) x price (fs, p, mv, e) fit = (spelled m (some_length m.flights mv.path.some) fit.0, tt)
moves_spelled b q (m ∷ n ∷ ms) x price (fs, p, at, us, rest, mv, run, e) fit =
    (spelled m (some_length m.flights mv.path.some) fit.0, moves_spelled b q (n ∷ ms) (record { at = at; units = us; part = part_with x.part (begins m.role) p }) rest run fit.1)
