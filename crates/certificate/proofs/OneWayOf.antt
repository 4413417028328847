-- The worked case: the certificate with the least price as its bound is that of a search, and none with a smaller one is.
use Rattle.std.proofs.Common.{◌≡◌, ℕ, ◌<◌, List, [], ◌∷◌, Some, None, refl, ap, ◌∙◌, subst, inl, inr, arith}
use Rattle.certificate.specs.AnswerCheck.{run_of}
use Rattle.certificate.specs.CertOf.{CertOf, CertOfRuns, RowsAre}
use Rattle.certificate.specs.OneWay.{flight, one_way_answer, one_way_book, one_way_certificate, one_way_move, one_way_request, one_way_right, one_way_root, one_way_row}
use Rattle.certificate.proofs.OneWayChecks.{root_one, starts}
use Rattle.certificate.proofs.OneWayMoves.{one_way_piece, only_move, root_move}
use Rattle.fare_law.specs.declared.moves.Move.{Move}
use Rattle.fare_law.specs.Lists.{IsIn}
use Rattle.flight_paths.specs.declared.positions.Position.{Position}
use Rattle.residual_keys.specs.Residuals.{LeadsFrom, Run, RunFromRoot, State, no_part}
use Rattle.residual_keys.specs.Searches.{BestRuns, Drawn, IsDrawn, Reached}

some_none : (at : Position) → Some at ≡ None → ⊥
some_none at e = cc

-- the one run from the root
only_run : (ms : List Move) (price : ℕ) → Run one_way_book one_way_request one_way_root ms price → (ms ≡ one_way_move ∷ []) × (price ≡ 20000)
only_run [] price run = absurd run
only_run (m ∷ []) price (fs, p, mv, e) = let o = only_move m fs p None [] mv in (ap (λ z. z ∷ []) o.0, e ∙ o.2)
only_run (m ∷ n ∷ ms) price (fs, p, at, us, rest, mv, run, e) = absurd (some_none at (only_move m fs p (Some at) us mv).1)

the_run : Run one_way_book one_way_request one_way_root (one_way_move ∷ []) 20000
the_run = (flight ∷ [], one_way_piece, root_move, refl)

drawn_run : (ms : List Move) (price : ℕ) → RunFromRoot one_way_book one_way_request ms price → (ms ≡ one_way_move ∷ []) × (price ≡ 20000)
drawn_run ms price (at, is, run) = only_run ms price (subst (λ z. Run one_way_book one_way_request z ms price) (root_one (record { at = at; units = []; part = no_part }) (at, is, refl)) run)

drawn_in : (d : Drawn) → IsDrawn one_way_book one_way_request d → IsIn d (run_of one_way_answer ∷ [])
drawn_in d run = let o = drawn_run d.moves d.price run in inl (λ i. record { price = o.1 i; moves = o.0 i })

runs : BestRuns one_way_book one_way_request 3 (run_of one_way_answer ∷ [])
runs = record {
  ascending = tt;
  each = ((one_way_root.at, starts, the_run), tt);
  few = omega arith;
  rest = λ d run out. absurd (out (drawn_in d run));
}

-- no move leads from the root to another residual
stays : (ms : List Move) (x : State) → LeadsFrom one_way_book one_way_request one_way_root ms x → x ≡ one_way_root
stays [] x h = h
stays (m ∷ ms) x (fs, p, at, us, mv, h) = absurd (some_none at (only_move m fs p (Some at) us mv).1)

reached : (x : State) → Reached one_way_book one_way_request x → x ≡ one_way_root
reached x (ms, (at, is, h)) = stays ms x (subst (λ z. LeadsFrom one_way_book one_way_request z ms x) (root_one (record { at = at; units = []; part = no_part }) (at, is, refl)) h)

rows : RowsAre one_way_book one_way_request (one_way_row 20000 ∷ [])
rows = record {
  need = record { in_order = tt; are = λ x. (root x, λ h. inl (reached x h)) };
  bounds = (((one_way_move ∷ [], the_run), λ ms price run. omega (arith, (only_run ms price run).1)), tt);
}
  where
    root : (x : State) → IsIn x (one_way_root ∷ []) → Reached one_way_book one_way_request x
    root x (inl e) = ([], (one_way_root.at, starts, e))
    root x (inr i) = absurd i

pub is_of_runs : CertOfRuns one_way_book one_way_request one_way_right
is_of_runs = record { of = (refl, refl); runs = runs; rows = rows }

pub smaller_is_not : (bound : ℕ) → bound < 20000 → CertOf one_way_book one_way_request (one_way_certificate bound) → ⊥
smaller_is_not bound lt of = let run = of.rows.bounds.0.0 in omega (arith, lt, (only_run run.0 bound run.1).1)
