-- The certificate of a search meets the checks.
use Rattle.std.proofs.Common.{◌≡◌, ℕ, ◌+◌, ◌≤◌, List, [], ◌∷◌, ◌++◌, length, sym, ap, ◌∙◌, subst, inl, inr, arith, append_assoc}
use Rattle.certificate.specs.declared.parts.CertAnswer.{CertAnswer}
use Rattle.certificate.specs.AnswerCheck.{AnswerIs, AnswerBelow, AnswersHold}
use Rattle.certificate.specs.BoundCheck.{state_after}
use Rattle.certificate.specs.CertOf.{CertOf, SearchMeetsChecks}
use Rattle.certificate.specs.declared.parts.Certificate.{Certificate}
use Rattle.certificate.specs.DepartureCheck.{CountsFor, DeparturesHold, LeadsFor}
use Rattle.residual_keys.proofs.NothingLost.{run_ticket, ticket_run}
use Rattle.residual_keys.proofs.OneNext.{run_has_keys}
use Rattle.ticket_order.proofs.Codes.{code_front, codes_joined}
use Rattle.ticket_order.proofs.Words.{less_cut}
use Rattle.certificate.proofs.ListFacts.{each_in, each_last, is_in, matched_back, matched_left, matched_pairs, matched_right, matched_turn, pair_last}
use Rattle.certificate.proofs.SearchRows.{bounds_hold, least, rows_hold, run_at, run_more}
use Rattle.certificate.proofs.Tickets.{below}
use Rattle.fare_law.specs.declared.moves.Move.{Move}
use Rattle.fare_law.specs.declared.requests.Request.{Request}
use Rattle.fare_law.specs.Book.{Book}
use Rattle.fare_law.specs.Lists.{Each, EachPair, IsIn, Less}
use Rattle.fare_law.specs.Moves.{moves_of}
use Rattle.fare_law.specs.Codes.{run_code}
use Rattle.fare_law.specs.Best.{Before, Cheaper}
use Rattle.fare_law.specs.Limits.{HasKeys}
use Rattle.fare_law.specs.Parts.{price_of}
use Rattle.fare_law.specs.Flights.{Ascending}
use Rattle.residual_keys.specs.Residuals.{State, Run, RunFromRoot, no_part}
use Rattle.ticket_order.specs.Coding.{Coded}
use Rattle.law_lemmas.proofs.EachOne.{each_from, each_left}
use Rattle.law_lemmas.proofs.Lists.{length_middle}
use Rattle.law_lemmas.proofs.Pairs.{matched_long}

leads_price : (b : Book) (q : Request) (r x : State) (front ms : List Move) (price further : ℕ) → LeadsFor b q r front x price → Run b q x ms further → Run b q r (front ++ ms) (price + further)
leads_price b q r x [] ms price further h run = subst (λ n. Run b q r ms n) (sums price h.1) (subst (λ z. Run b q z ms further) h.0 run)
  where
    sums : (price : ℕ) → price ≡ 0 → further ≡ price + further
    sums price e = omega arith
leads_price b q r x (m ∷ front) ms price further (fs, p, at, us, rest, mv, h, e) run =
    subst (λ n. Run b q r (m ∷ (front ++ ms)) n) (sums e) (run_more b q r m (front ++ ms) fs p at us (rest + further) mv (leads_price b q (state_after r m p at us) x front ms rest further h run))
  where
    sums : price ≡ price_of fs p + rest → price_of fs p + (rest + further) ≡ price + further
    sums e = omega arith

module _ (b : Book) (q : Request) (c : Certificate) (of : CertOf b q c) where
  pub answers_ascend : EachPair AnswerBelow c.answers
  answers_ascend = matched_pairs (λ t a. AnswerIs b q a t) (Cheaper b q) AnswerBelow (λ t u a d. below b q a d t u) of.tickets c.answers (matched_turn (AnswerIs b q) c.answers of.tickets of.answers) of.best.ascending

  pub answers_few : length c.answers ≤ q.best
  answers_few = omega (arith, of.best.few, matched_long (AnswerIs b q) c.answers of.tickets of.answers)

  answers_hold : AnswersHold b q c.answers
  answers_hold before a after split =
      let t = matched_right (AnswerIs b q) c.answers of.tickets of.answers a (is_in c.answers before a after split) in
      record {
        few = omega (arith, answers_few, ap length split, length_middle before a after);
        lawful = (t.0, t.2);
        greater = pair_last AnswerBelow c.answers before a after answers_ascend split;
      }

  module _ (asc : Ascending b.timetable.flights) where
    -- a run that no answer has comes after all of as many answers as are asked for
    pub comes_after : (ms : List Move) (price : ℕ) → RunFromRoot b q ms price → ((a : CertAnswer) → IsIn a c.answers → a.moves ≡ ms → ⊥)
        → Each (λ a. Before a.price (run_code a.moves) price (run_code ms)) c.answers × (length c.answers ≡ q.best)
    comes_after ms price run none =
        let t = run_ticket b q asc ms price run in
        let e : CertAnswer = record { price = price; moves = ms } in
        let k = of.best.rest t.0 t.1 (λ i. let a = matched_left (AnswerIs b q) c.answers of.tickets of.answers t.0 i in none a.0 a.1 (sym a.2.1 ∙ t.2)) in (
          matched_back (AnswerIs b q) (λ a. AnswerBelow a e) (λ u. Cheaper b q u t.0) (λ a u h w. below b q a e u t.0 h (t.1, t.2, t.3) w) c.answers of.tickets of.answers k.0,
          sym (matched_long (AnswerIs b q) c.answers of.tickets of.answers) ∙ k.1,
        )

    counts_run : (x : State) (m : Move) (last : ℕ) → CountsFor b q c.rows x m last → (rest : List Move) × Run b q x (m ∷ rest) last
    counts_run x m last (inl (fs, p, mv, e)) = ([], (fs, p, mv, e))
    counts_run x m last (inr (fs, p, at, us, row, bound, mv, i, s, k, e)) =
        let r = run_at b q row.residual row.bound bound (least b q c.rows of.rows row i) k in
        (r.0, subst (λ n. Run b q x (m ∷ r.0) n) (sym e) (run_more b q x m r.0 fs p at us bound mv (subst (λ z. Run b q z r.0 bound) s r.1)))

    answer_coded : HasKeys b → (a : CertAnswer) → IsIn a c.answers → Each Coded a.moves
    answer_coded keys a i =
        let t = matched_right (AnswerIs b q) c.answers of.tickets of.answers a i in
        let run = ticket_run b q t.0 t.2.0 in
        subst (Each Coded) t.2.1 (run_has_keys b q keys _ (moves_of t.0) run.0 run.1.2)

    departures_hold : HasKeys b → 1 ≤ q.best → DeparturesHold b q c.rows c.answers
    departures_hold keys one front m price d =
        let r = counts_run d.there m d.last d.counts in
        let whole = leads_price b q d.root d.there front (m ∷ r.0) d.price d.last d.leads r.1 in
        let root : State = record { at = d.is_root.0; units = []; part = no_part } in
        let run : RunFromRoot b q (front ++ m ∷ r.0) price = (d.is_root.0, d.is_root.1, subst (λ n. Run b q root (front ++ m ∷ r.0) n) (sym d.whole) (subst (λ z. Run b q z (front ++ m ∷ r.0) (d.price + d.last)) d.is_root.2 whole)) in
        let k = comes_after (front ++ m ∷ r.0) price run (λ a i e. d.none_takes a r.0 i e) in (
          k.1,
          each_last (λ a. Before a.price (run_code a.moves) price (run_code (front ++ m ∷ []))) c.answers (omega (arith, k.1, one))
              (each_from (λ a. Before a.price (run_code a.moves) price (run_code (front ++ m ∷ []))) c.answers
              (λ a i. cut a i r.0 (run_has_keys b q keys root (front ++ m ∷ r.0) price run.2) (each_in (λ y. Before y.price (run_code y.moves) price (run_code (front ++ m ∷ r.0))) c.answers k.0 a i))),
        )
      where
        codes_split : (rest : List Move) → run_code (front ++ m ∷ rest) ≡ run_code (front ++ m ∷ []) ++ run_code rest
        codes_split rest = ap run_code (sym (append_assoc front (m ∷ []) rest)) ∙ codes_joined (front ++ m ∷ []) rest

        cut : (a : CertAnswer) → IsIn a c.answers → (rest : List Move) → Each Coded (front ++ m ∷ rest) → Before a.price (run_code a.moves) price (run_code (front ++ m ∷ rest)) → Before a.price (run_code a.moves) price (run_code (front ++ m ∷ []))
        cut a i rest coded (inl lt) = inl lt
        cut a i rest coded (inr (e, l)) = elim (less_cut (run_code a.moves) (run_code (front ++ m ∷ [])) (run_code rest) (subst (λ z. Less (run_code a.moves) z) (codes_split rest) l)) [
          | inl less ↦ inr (e, less)
          | inr p ↦
              let f = code_front (front ++ m ∷ []) a.moves p.0
              (each_left Coded (front ++ m ∷ []) rest (subst (Each Coded) (sym (append_assoc front (m ∷ []) rest)) coded))
              (answer_coded keys a i) p.1 in
              absurd (d.none_takes a f.0 i (f.1 ∙ append_assoc front (m ∷ []) f.0))
        ]

pub search_meets_checks : (c : Certificate) (b : Book) (q : Request) → SearchMeetsChecks c b q
search_meets_checks c b q asc keys one first e of = record {
  rows = rows_hold b q c.rows of.rows first e;
  bounds = bounds_hold b q c.rows of.rows;
  answers = answers_hold b q c of;
  departures = departures_hold b q c of asc keys one;
  request = of.of;
}
