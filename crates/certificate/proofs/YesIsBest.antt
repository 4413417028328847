-- A certificate whose checks hold has the best tickets as its answers. Given on to the crates above.
use Rattle.std.proofs.Common.{◌≡◌, ℕ, ◌+◌, ◌≤◌, List, [], ◌∷◌, ◌++◌, length, slice_get, Some, None, sym, refl, ap, ◌∙◌, subst, inl, inr, arith, append_assoc}
use Rattle.certificate.specs.declared.parts.CertAnswer.{CertAnswer}
use Rattle.certificate.specs.AnswerCheck.{AnswerIs, AnswerBelow, AnswerRight}
use Rattle.certificate.specs.BoundCheck.{state_after, BoundRight, EndsHold, StepsHold}
use Rattle.certificate.specs.CertOf.{YesIsBest}
use Rattle.certificate.specs.declared.parts.Certificate.{Certificate}
use Rattle.certificate.specs.declared.parts.CertRow.{CertRow}
use Rattle.certificate.specs.DepartureCheck.{DeparturesHold, IsFront, LeadsFor}
use Rattle.certificate.specs.RowCheck.{IsRoot, RootIsRow}
use Rattle.certificate.proofs.Decided.{taken_decided}
use Rattle.residual_keys.proofs.NothingLost.{ticket_run}
use Rattle.residual_keys.proofs.OneNext.{moves_one, run_leads}
use Rattle.residual_keys.proofs.OneTicket.{ticket_one}
use Rattle.ticket_order.proofs.Codes.{codes_joined}
use Rattle.ticket_order.proofs.Words.{before_more, before_trans}
use Rattle.certificate.proofs.ListFacts.{each_in, all_each, all_pairs, all_few, matched_some, matched_right, matched_each, matched_both, matched_pairs}
use Rattle.certificate.proofs.Tickets.{answer_code, cheaper}
use Rattle.fare_law.specs.declared.flights.Flight.{Flight}
use Rattle.fare_law.specs.declared.moves.Move.{Move}
use Rattle.fare_law.specs.declared.requests.Request.{Request}
use Rattle.fare_law.specs.declared.tickets.Piece.{Piece}
use Rattle.fare_law.specs.declared.tickets.Ticket.{Ticket}
use Rattle.fare_law.specs.Book.{Book}
use Rattle.fare_law.specs.Lawful.{Lawful}
use Rattle.fare_law.specs.Lists.{Each, EachPair, IsIn, Matched, OnLast}
use Rattle.fare_law.specs.Moves.{moves_of}
use Rattle.fare_law.specs.Codes.{run_code, code}
use Rattle.fare_law.specs.Best.{Before, Best, Cheaper}
use Rattle.fare_law.specs.Parts.{price_of}
use Rattle.flight_paths.specs.declared.positions.Position.{Position}
use Rattle.flight_paths.specs.Positions.{before_slice}
use Rattle.open_unit.specs.declared.units.OpenUnit.{OpenUnit}
use Rattle.residual_keys.specs.Residuals.{State, no_part, Moves, Run, LeadsFrom}
use Rattle.law_lemmas.proofs.Ends.{on_last}
use Rattle.law_lemmas.proofs.Options.{some_one}
use Rattle.law_lemmas.proofs.Pairs.{matched_long}

-- A row's bound is at most the price of each run from it, and where there is a run it has one.
lower : (b : Book) (q : Request) (rows : List CertRow) → Each (EndsHold b q) rows → Each (StepsHold b q rows) rows → (ms : List Move) (row : CertRow) (price : ℕ) → IsIn row rows → Run b q row.residual ms price
    → (bound : ℕ) × (row.bound ≡ Some bound) × (bound ≤ price)
lower b q rows en st [] row price i h = absurd h
lower b q rows en st (m ∷ []) row price i (fs, p, mv, e) = let r = each_in (EndsHold b q) rows en row i m fs p mv in (r.0, r.1, omega (arith, r.2, e))
lower b q rows en st (m ∷ n ∷ ms) row price i (fs, p, at, us, rest, mv, run, e) =
    let s = each_in (StepsHold b q rows) rows st row i m fs p at us mv in
    let k = lower b q rows en st (n ∷ ms) s.0 rest s.1 (subst (λ x. Run b q x (n ∷ ms) rest) (sym s.2) run) in
    let r = s.3 k.0 k.1 in
    (r.0, r.1, omega (arith, r.2, k.2, e))

-- leading for a price is leading
leads_from : (b : Book) (q : Request) (r x : State) (ms : List Move) (price : ℕ) → LeadsFor b q r ms x price → LeadsFrom b q r ms x
leads_from b q r x [] price h = h.0
leads_from b q r x (m ∷ ms) price (fs, p, at, us, rest, mv, h, e) = (fs, p, at, us, mv, leads_from b q (state_after r m p at us) x ms rest h)

leads_push : (b : Book) (q : Request) (r x : State) (ms : List Move) (price : ℕ) (m : Move) (fs : List Flight) (p : Piece) (at : Position) (us : List OpenUnit) → LeadsFor b q r ms x price → Moves b q x m fs p (Some at) us
    → LeadsFor b q r (ms ++ m ∷ []) (state_after x m p at us) (price + price_of fs p)
leads_push b q r x [] price m fs p at us h mv = go r h.0
  where
    go : (r : State) → x ≡ r → LeadsFor b q r (m ∷ []) (state_after x m p at us) (price + price_of fs p)
    go r e = (fs, p, at, us, 0, subst (λ z. Moves b q z m fs p (Some at) us) e mv, (ap (λ z. state_after z m p at us) e, refl), omega (arith, h.1))
leads_push b q r x (k ∷ ms) price m fs p at us (gs, p', at', us', rest, mv', h, e) mv =
    (gs, p', at', us', rest + price_of fs p, mv', leads_push b q (state_after r k p' at' us') x ms rest m fs p at us h mv, omega (arith, e))

pub root_same : (b : Book) (q : Request) (r s : State) → IsRoot b q r → IsRoot b q s → r ≡ s
root_same b q r s h k = h.2 ∙ ap (λ z. let x : State = record { at = z; units = []; part = no_part } in x) (some_one (before_slice b 0 (slice_get q.slices 0) None) h.0 k.0 h.1 k.1) ∙ sym k.2

-- What the checks say of the rows and the answers, with the answers' tickets.
record Told (b : Book) (q : Request) (rows : List CertRow) (answers : List CertAnswer) (tickets : List Ticket) : Type 0 where
  root : RootIsRow b q rows
  ends : Each (EndsHold b q) rows
  steps : Each (StepsHold b q rows) rows
  few : length answers ≤ q.best
  right : Matched (AnswerIs b q) answers tickets
  ascending : EachPair AnswerBelow answers
  departures : DeparturesHold b q rows answers

module _ (b : Book) (q : Request) (rows : List CertRow) (answers : List CertAnswer) (tickets : List Ticket) (c : Told b q rows answers tickets) where
  -- an answer that begins with a front goes on with a run of what the front leads to
  answer_runs : (root x : State) (front rest : List Move) (a : CertAnswer) → IsRoot b q root → LeadsFrom b q root front x → IsIn a answers → a.moves ≡ front ++ rest → (price : ℕ) × Run b q x rest price
  answer_runs root x front rest a ir lf i e =
      let t = matched_right (AnswerIs b q) answers tickets c.right a i in
      let run = ticket_run b q t.0 t.2.0 in
      let s : (let z : State = record { at = run.1.0; units = []; part = no_part } in z) ≡ root = root_same b q _ root (run.1.0, run.1.1, refl) ir in
      run_leads b q root x front rest lf (run.0, subst (λ ms. Run b q root ms run.0) (t.2.1 ∙ e) (subst (λ z. Run b q z (moves_of t.0) run.0) s run.1.2))

  -- A ticket that is none of the answers comes after the last of k answers.
  departs : (ms : List Move) (root x : State) (front : List Move) (price further : ℕ) (t : Ticket) (row : CertRow)
      → IsRoot b q root → IsFront answers front → LeadsFor b q root front x price → Run b q x ms further → IsIn row rows → row.residual ≡ x
      → Lawful t b q → moves_of t ≡ front ++ ms → (IsIn t tickets → ⊥)
      → (length answers ≡ q.best) × OnLast (λ a. Before a.price (run_code a.moves) (price + further) (run_code (front ++ ms))) answers
  departs [] root x front price further t row ir fr lf run i is law whole out = absurd run
  departs (m ∷ []) root x front price further t row ir fr lf (fs, p, mv, e) i is law whole out = elim (taken_decided answers front m) [
    | inr none ↦
        subst (λ z. (length answers ≡ q.best) × OnLast (λ a. Before a.price (run_code a.moves) (price + z) (run_code (front ++ m ∷ []))) answers) (sym e)
        (c.departures front m (price + price_of fs p) (record { root = root; there = x; price = price; last = price_of fs p; is_root = ir; leads = lf; is_front = fr; none_takes = none; counts = inl (fs, p, mv, refl); whole = refl }))
    | inl h ↦ absurd (only h.0 h.1 h.2 h.3)
  ]
    where
      only : (a : CertAnswer) (rest : List Move) → IsIn a answers → a.moves ≡ front ++ m ∷ rest → ⊥
      only a [] i' e' =
          let u = matched_right (AnswerIs b q) answers tickets c.right a i' in
          out (subst (λ z. IsIn z tickets) (ticket_one b q u.0 t u.2.0 law (u.2.1 ∙ e' ∙ sym whole)) u.1)
      only a (n ∷ rest) i' e' =
          let r = answer_runs root x front (m ∷ n ∷ rest) a ir (leads_from b q root x front price lf) i' e' in
          some_none r.1.2 (moves_one b q x m fs r.1.0 p r.1.1 None (Some r.1.2) [] r.1.3 mv r.1.5).2
        where
          some_none : (at : Position) → None ≡ Some at → ⊥
          some_none at z = cc
  departs (m ∷ n ∷ ms) root x front price further t row ir fr lf (fs, p, at, us, rest, mv, run, e) i is law whole out =
      let s = each_in (StepsHold b q rows) rows c.steps row i m fs p at us (subst (λ z. Moves b q z m fs p (Some at) us) (sym is) mv) in
      let there : s.0.residual ≡ state_after x m p at us = s.2 ∙ ap (λ z. state_after z m p at us) is in
      elim (taken_decided answers front m) [
        | inr none ↦
            let l = lower b q rows c.ends c.steps (n ∷ ms) s.0 rest s.1 (subst (λ z. Run b q z (n ∷ ms) rest) (sym there) run) in
            let d = c.departures front m (price + (price_of fs p + l.0)) (record { root = root; there = x; price = price; last = price_of fs p + l.0; is_root = ir; leads = lf; is_front = fr; none_takes = none; counts = inr (fs, p, at, us, s.0, l.0, mv, s.1, there, l.1, refl); whole = refl }) in (
              d.0,
              on_last (λ a. Before a.price (run_code a.moves) (price + (price_of fs p + l.0)) (run_code (front ++ m ∷ []))) (λ a. Before a.price (run_code a.moves) (price + further) (run_code (front ++ m ∷ n ∷ ms)))
                  (λ a w. subst (λ z. Before a.price (run_code a.moves) (price + further) z) (code_split front m (n ∷ ms)) (before_more a.price (price + (price_of fs p + l.0)) (price + further) (run_code a.moves) (run_code (front ++ m ∷ [])) (run_code (n ∷ ms)) w (omega (arith, l.2, e))))
                  answers d.1,
            )
        | inl h ↦
            let k = goes_on h.0 h.1 h.2 h.3 in
            let d = departs (n ∷ ms) root (state_after x m p at us) (front ++ m ∷ []) (price + price_of fs p) rest t s.0 ir
            (inr (h.0, h.2, (k.0, k.1, h.3 ∙ ap (λ z. front ++ m ∷ z) k.2 ∙ sym (append_assoc front (m ∷ []) (k.0 ∷ k.1)))))
            (leads_push b q root x front price m fs p at us lf mv) run s.1 there law (whole ∙ sym (append_assoc front (m ∷ []) (n ∷ ms))) out in (
              d.0,
              on_last (λ a. Before a.price (run_code a.moves) (price + price_of fs p + rest) (run_code ((front ++ m ∷ []) ++ n ∷ ms))) (λ a. Before a.price (run_code a.moves) (price + further) (run_code (front ++ m ∷ n ∷ ms)))
                  (λ a w. subst (λ z. Before a.price (run_code a.moves) z (run_code (front ++ m ∷ n ∷ ms))) (sums e) (subst (λ z. Before a.price (run_code a.moves) (price + price_of fs p + rest) (run_code z)) (append_assoc front (m ∷ []) (n ∷ ms)) w))
                  answers d.1,
            )
      ]
    where
      sums : further ≡ price_of fs p + rest → price + price_of fs p + rest ≡ price + further
      sums w = omega arith

      code_split : (f : List Move) (k : Move) (r : List Move) → run_code (f ++ k ∷ []) ++ run_code r ≡ run_code (f ++ k ∷ r)
      code_split f k r = sym (codes_joined (f ++ k ∷ []) r) ∙ ap run_code (append_assoc f (k ∷ []) r)

      goes_on : (a : CertAnswer) (tail : List Move) → IsIn a answers → a.moves ≡ front ++ m ∷ tail → (k : Move) × (more : List Move) × (tail ≡ k ∷ more)
      goes_on a [] i' e' =
          let r = answer_runs root x front (m ∷ []) a ir (leads_from b q root x front price lf) i' e' in
          absurd (some_none (moves_one b q x m fs r.1.0 p r.1.1 (Some at) None us [] mv r.1.2).2)
        where
          some_none : Some at ≡ None → ⊥
          some_none z = cc
      goes_on a (k ∷ more) i' e' = (k, more, refl)

  -- what comes after the last answer comes after each
  after_each : (price : ℕ) (word : List ℕ) (xs : List CertAnswer) → EachPair AnswerBelow xs → OnLast (λ a. Before a.price (run_code a.moves) price word) xs → Each (λ a. Before a.price (run_code a.moves) price word) xs
  after_each price word [] h l = absurd l
  after_each price word (x ∷ []) h l = (l, tt)
  after_each price word (x ∷ y ∷ xs) h l =
      let r = after_each price word (y ∷ xs) h.1 l in
      (before_trans x.price y.price price (run_code x.moves) (run_code y.moves) word h.0 r.0, r)

  -- The answers, as tickets, are the best.
  told_best : Best b q tickets
  told_best = record {
    ascending = matched_pairs (AnswerIs b q) AnswerBelow (Cheaper b q) (cheaper b q) answers tickets c.right c.ascending;
    each = matched_each (AnswerIs b q) (λ t. Lawful t b q) (λ a t h. h.0) answers tickets c.right;
    few = subst (λ n. n ≤ q.best) (sym (matched_long (AnswerIs b q) answers tickets c.right)) c.few;
    rest = λ t law out.
        let run = ticket_run b q t law in
        let root : State = record { at = run.1.0; units = []; part = no_part } in
        let first = c.root in
        let d = departs (moves_of t) root root [] 0 run.0 t first.0 (run.1.0, run.1.1, refl) (inl refl) (refl, refl) run.1.2 first.1
        (root_same b q first.0.residual root first.2 (run.1.0, run.1.1, refl)) law refl out in
        let w = subst (λ z. OnLast (λ a. Before a.price (run_code a.moves) z (code t)) answers) (zero_plus run.0) d.1 in (
          matched_both (AnswerIs b q) (λ a. Before a.price (run_code a.moves) run.0 (code t)) (λ u. Cheaper b q u t)
              (λ a u h l. (a.price, run.0, h.2, run.2, subst (λ z. Before a.price z run.0 (code t)) (sym (answer_code b q a u h)) l))
              answers tickets c.right (after_each run.0 (code t) answers c.ascending w),
          matched_long (AnswerIs b q) answers tickets c.right ∙ d.0,
        );
  }
    where
      zero_plus : (n : ℕ) → 0 + n ≡ n
      zero_plus n = omega arith

pub yes_is_best : (c : Certificate) (b : Book) (q : Request) → YesIsBest c b q
yes_is_best c b q h =
    let t = matched_some (AnswerIs b q) c.answers (all_each (AnswerRight b q) (λ a. (t : Ticket) × AnswerIs b q a t) (λ before a r. r.lawful) c.answers h.answers) in (
      t.0,
      told_best b q c.rows c.answers t.0 (record {
        root = h.rows.1;
        ends = all_each (BoundRight b q c.rows) (EndsHold b q) (λ before row r. r.0) c.rows h.bounds;
        steps = all_each (BoundRight b q c.rows) (StepsHold b q c.rows) (λ before row r. r.1) c.rows h.bounds;
        few = omega (arith, all_few (AnswerRight b q) q.best 0 (λ before a r. omega (arith, r.few)) c.answers h.answers (omega arith));
        right = t.1;
        ascending = all_pairs (AnswerRight b q) AnswerBelow (λ before a r. r.greater) c.answers h.answers;
        departures = h.departures;
      }),
      t.1,
    )
