-- The worked case: each check fails where the certificate is changed.
use Rattle.std.proofs.Common.{◌≡◌, ◌≢◌, ℕ, List, [], ◌∷◌, None, refl, ap, ◌∙◌, subst, inl, inr, arith}
use Rattle.certificate.specs.Checks.{FirstFailure}
use Rattle.certificate.specs.OneWay.{flight, one_way_answer, one_way_book, one_way_certificate, one_way_move, one_way_request, one_way_root, one_way_row}
use Rattle.residual_keys.proofs.NothingLost.{run_ticket, ticket_run}
use Rattle.certificate.proofs.OneWayChecks.{answers_hold, bounds_hold, departures_hold, root_one, rows_hold, starts}
use Rattle.certificate.proofs.OneWayMoves.{one_way_piece, only_move, root_move}
use Rattle.certificate.proofs.Tickets.{costs_one}
use Rattle.fare_law.specs.declared.moves.Move.{Move}
use Rattle.fare_law.specs.declared.tickets.Ticket.{Ticket}
use Rattle.fare_law.specs.Lawful.{Lawful}
use Rattle.fare_law.specs.Moves.{moves_of}
use Rattle.fare_law.specs.Codes.{run_code}
use Rattle.fare_law.specs.Best.{Before, Costs}
use Rattle.residual_keys.specs.ResidualOrder.{StateBefore}
use Rattle.residual_keys.specs.Residuals.{Run, RunFromRoot, no_part}
use Rattle.law_lemmas.proofs.Lists.{no_middle}

pub no_row : FirstFailure (record (one_way_certificate 20000) { rows = [] }) one_way_book one_way_request 1 0
no_row = inl (refl, inr ((λ before x after e. absurd (no_middle before x after e)), (λ root. root.1), refl))

pub row_twice : (StateBefore one_way_root one_way_root → ⊥) → FirstFailure (record (one_way_certificate 20000) { rows = one_way_row 20000 ∷ one_way_row 20000 ∷ [] }) one_way_book one_way_request 1 2
row_twice never = inl (
  refl,
  inl (record {
    before = one_way_row 20000 ∷ [];
    wrong = one_way_row 20000;
    after = [];
    whole = refl;
    counted = refl;
    earlier = (rows_hold 20000).0;
    fails = λ r. never r.greater;
  }),
)

-- a run of the one move from the root costs the fare's amount
run_price : (ms : List Move) (price : ℕ) → ms ≡ one_way_move ∷ [] → RunFromRoot one_way_book one_way_request ms price → price ≡ 20000
run_price ms price e (at, is, run) =
    let root = root_one (record { at = at; units = []; part = no_part }) (at, is, refl) in
    go (subst (λ z. Run one_way_book one_way_request z (one_way_move ∷ []) price) root (subst (λ z. Run one_way_book one_way_request (record { at = at; units = []; part = no_part }) z price) e run))
  where
    go : Run one_way_book one_way_request one_way_root (one_way_move ∷ []) price → price ≡ 20000
    go (fs, p, mv, f) = f ∙ (only_move one_way_move fs p None [] mv).2

pub wrong_price : (price : ℕ) → price ≢ 20000 → FirstFailure (record (one_way_certificate 20000) { answers = record one_way_answer { price = price } ∷ [] }) one_way_book one_way_request 3 1
wrong_price price ne = inr (
  rows_hold 20000,
  inr (
    bounds_hold 20000 (omega arith),
    inl (
      refl,
      record {
        before = [];
        wrong = record one_way_answer { price = price };
        after = [];
        whole = refl;
        counted = refl;
        earlier = λ before x after e. absurd (no_middle before x after e);
        fails = λ r. ne (costs r.lawful.0 r.lawful.1.0 r.lawful.1.1 r.lawful.1.2);
      },
    ),
  ),
)
  where
    costs : (t : Ticket) → Lawful t one_way_book one_way_request → moves_of t ≡ one_way_move ∷ [] → Costs t one_way_book one_way_request price → price ≡ 20000
    costs t law moves k =
        let run = ticket_run one_way_book one_way_request t law in
        costs_one one_way_book one_way_request t price run.0 k run.2 ∙ run_price (moves_of t) run.0 moves run.1

pub answer_twice : ((p : ℕ) (w : List ℕ) → Before p w p w → ⊥) → FirstFailure (record (one_way_certificate 20000) { answers = one_way_answer ∷ one_way_answer ∷ [] }) one_way_book one_way_request 3 2
answer_twice never = inr (
  rows_hold 20000,
  inr (
    bounds_hold 20000 (omega arith),
    inl (
      refl,
      record {
        before = one_way_answer ∷ [];
        wrong = one_way_answer;
        after = [];
        whole = refl;
        counted = refl;
        earlier = answers_hold (run_ticket one_way_book one_way_request (tt, tt));
        fails = λ r. never 20000 (run_code (one_way_move ∷ [])) r.greater;
      },
    ),
  ),
)

pub no_answer : FirstFailure (record (one_way_certificate 20000) { answers = [] }) one_way_book one_way_request 4 0
no_answer = inr (
  rows_hold 20000,
  inr (
    bounds_hold 20000 (omega arith),
    inr (
      λ before x after e. absurd (no_middle before x after e),
      inl (
        refl,
        record {
          front = [];
          move = one_way_move;
          least = 20000;
          departs = record {
            root = one_way_root;
            there = one_way_root;
            price = 0;
            last = 20000;
            is_root = (one_way_root.at, starts, refl);
            leads = (refl, refl);
            is_front = inl refl;
            none_takes = λ a rest i e. i;
            counts = inl (flight ∷ [], one_way_piece, root_move, refl);
            whole = refl;
          };
          at = inl (refl, refl);
          fails = λ h. h.1;
          earlier = λ front m price place d at lt. absurd (omega (arith, lt));
        },
      ),
    ),
  ),
)

pub other_version : (n : ℕ) → n ≢ 1 → FirstFailure (record (one_way_certificate 20000) { number = n }) one_way_book one_way_request 5 1
other_version n ne = inr (
  rows_hold 20000,
  inr (bounds_hold 20000 (omega arith), inr (answers_hold (run_ticket one_way_book one_way_request (tt, tt)), inr (departures_hold 20000, (refl, inl (ne, refl))))),
)

pub other_request : FirstFailure (record (one_way_certificate 20000) { request = record one_way_request { best = 4 } }) one_way_book one_way_request 5 2
other_request = inr (
  rows_hold 20000,
  inr (bounds_hold 20000 (omega arith), inr (answers_hold (run_ticket one_way_book one_way_request (tt, tt)), inr (departures_hold 20000, (refl, inr (refl, differs, refl))))),
)
  where
    differs : record one_way_request { best = 4 } ≢ one_way_request
    differs e = omega (arith, ap (λ q. q.best) e)
