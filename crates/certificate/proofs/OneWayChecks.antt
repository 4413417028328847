-- The worked case: with a bound up to the least price the certificate meets the checks, and with a greater one the bound check fails.
use Rattle.std.proofs.Common.{◌≡◌, ℕ, ◌≤◌, ◌<◌, List, [], ◌∷◌, ◌++◌, Some, None, slice_get, sym, refl, ap, ◌∙◌, subst, inl, inr, arith}
use Rattle.certificate.specs.AnswerCheck.{AnswerRight, AnswersHold}
use Rattle.certificate.specs.BoundCheck.{BoundRight, BoundWithin, BoundsHold}
use Rattle.certificate.specs.Checks.{Checks, FirstFailure}
use Rattle.certificate.specs.DepartureCheck.{CountsFor, DeparturesHold, IsFront, LeadsFor}
use Rattle.certificate.specs.InOrder.{AllRight}
use Rattle.certificate.specs.OneWay.{flight, one_way_answer, one_way_book, one_way_certificate, one_way_move, one_way_request, one_way_root, one_way_row}
use Rattle.certificate.specs.RowCheck.{IsRoot, RowRight, RowsHold}
use Rattle.residual_keys.specs.NothingLost.{RunsAreTickets}
use Rattle.certificate.proofs.OneWayMoves.{one_way_piece, only_move, root_move}
use Rattle.fare_law.specs.declared.moves.Move.{Move}
use Rattle.flight_paths.specs.declared.positions.Position.{Position}
use Rattle.flight_paths.specs.Positions.{before_slice}
use Rattle.residual_keys.specs.Residuals.{Moves, State, no_part}
use Rattle.law_lemmas.proofs.Lists.{no_middle}
use Rattle.law_lemmas.proofs.Tests.{false_true}

-- a list of one has one middle
single : {X : Type 0} (x : X) (before : List X) (y : X) (after : List X) → x ∷ [] ≡ before ++ y ∷ after → (before ≡ []) × (y ≡ x)
single x [] y after e = (refl, let same : y ≡ x = cc in same)
single x (z ∷ zs) y after e = absurd (no_middle zs y after (let rest : [] ≡ zs ++ y ∷ after = cc in rest))

pub one_right : {X : Type 0} (Right : List X → X → Type 0) (x : X) → Right [] x → AllRight Right (x ∷ [])
one_right Right x r before y after e = let s = single x before y after e in subst (λ z. Right z y) (sym s.0) (subst (Right []) (sym s.1) r)

pub starts : before_slice one_way_book 0 (slice_get one_way_request.slices 0) None ≡ Some one_way_root.at
starts = refl

pub root_one : (r : State) → IsRoot one_way_book one_way_request r → r ≡ one_way_root
root_one r h = h.2 ∙ ap (λ z. let x : State = record { at = z; units = []; part = no_part } in x) (same h.0 h.1)
  where
    same : (at : Position) → Some one_way_root.at ≡ Some at → at ≡ one_way_root.at
    same at e = cc

pub rows_hold : (bound : ℕ) → RowsHold one_way_book one_way_request (one_way_row bound ∷ [])
rows_hold bound = (
  one_right (RowRight one_way_book one_way_request) (one_way_row bound) (record {
    greater = tt;
    fits = record { slice = omega arith; leg = omega arith; via = (λ h. absurd (false_true h), λ e. absurd (omega (arith, e))); range = omega arith; known = omega arith };
  }),
  (one_way_row bound, inl refl, (one_way_root.at, starts, refl)),
)

pub bounds_hold : (bound : ℕ) → bound ≤ 20000 → BoundsHold one_way_book one_way_request (one_way_row bound ∷ [])
bounds_hold bound le = one_right (BoundRight one_way_book one_way_request (one_way_row bound ∷ [])) (one_way_row bound) (
  λ m fs p mv. (bound, refl, omega (arith, le, (only_move m fs p None [] mv).2)),
  λ m fs p at us mv. absurd (some_none at (only_move m fs p (Some at) us mv).1),
)
  where
    some_none : (at : Position) → Some at ≡ None → ⊥
    some_none at e = cc

bounds_fail : (bound : ℕ) → 20000 < bound → BoundRight one_way_book one_way_request (one_way_row bound ∷ []) [] (one_way_row bound) → ⊥
bounds_fail bound lt h = too_much (h.0 one_way_move (flight ∷ []) one_way_piece root_move)
  where
    too_much : BoundWithin (one_way_row bound) 20000 → ⊥
    too_much (other, e, le) = let same : bound ≡ other = cc in omega (arith, same, le, lt)

pub answers_hold : RunsAreTickets one_way_book one_way_request → AnswersHold one_way_book one_way_request (one_way_answer ∷ [])
answers_hold runs =
    let t = runs (one_way_move ∷ []) 20000 (one_way_root.at, starts, (flight ∷ [], one_way_piece, root_move, refl)) in
    one_right (AnswerRight one_way_book one_way_request) one_way_answer (record { few = omega arith; lawful = (t.0, (t.1, t.2, t.3)); greater = tt })

pub departures_hold : (bound : ℕ) → DeparturesHold one_way_book one_way_request (one_way_row bound ∷ []) (one_way_answer ∷ [])
departures_hold bound front m price d = absurd (d.none_takes one_way_answer [] (inl refl) (sym (ap (λ z. z ++ m ∷ []) (no_front front d.is_front) ∙ ap (λ z. z ∷ []) (moves d.there (at_root front d.there d.price (no_front front d.is_front) d.leads) d.last d.counts))))
  where
    no_front : (front : List Move) → IsFront (one_way_answer ∷ []) front → front ≡ []
    no_front front (inl e) = e
    no_front front (inr (a, inl e, (k, rest, f))) = (single one_way_move front k rest (sym (ap (λ z. z.moves) e) ∙ f)).0
    no_front front (inr (a, inr i, begins)) = absurd i

    at_root : (front : List Move) (there : State) (price : ℕ) → front ≡ [] → LeadsFor one_way_book one_way_request d.root front there price → there ≡ one_way_root
    at_root front there price e h = (subst (λ z. LeadsFor one_way_book one_way_request d.root z there price) e h).0 ∙ root_one d.root d.is_root

    moves : (there : State) → there ≡ one_way_root → (last : ℕ) → CountsFor one_way_book one_way_request (one_way_row bound ∷ []) there m last → m ≡ one_way_move
    moves there e last (inl (fs, p, mv, f)) = (only_move m fs p None [] (subst (λ z. Moves one_way_book one_way_request z m fs p None []) e mv)).0
    moves there e last (inr (fs, p, at, us, row, further, mv, i, s, k, f)) = (only_move m fs p (Some at) us (subst (λ z. Moves one_way_book one_way_request z m fs p (Some at) us) e mv)).0

pub meets_checks : RunsAreTickets one_way_book one_way_request → (bound : ℕ) → bound ≤ 20000 → Checks (one_way_certificate bound) one_way_book one_way_request
meets_checks runs bound le = record {
  rows = rows_hold bound;
  bounds = bounds_hold bound le;
  answers = answers_hold runs;
  departures = departures_hold bound;
  request = (refl, refl);
}

pub bound_fails : (bound : ℕ) → 20000 < bound → FirstFailure (one_way_certificate bound) one_way_book one_way_request 2 1
bound_fails bound lt = inr (
  rows_hold bound,
  inl (
    refl,
    record {
      before = [];
      wrong = one_way_row bound;
      after = [];
      whole = refl;
      counted = refl;
      earlier = λ before x after e. absurd (no_middle before x after e);
      fails = bounds_fail bound lt;
    },
  ),
)
