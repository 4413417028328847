-- The fronts of an answer in the order of their lengths, and the answers in their order: where a departure fails first.
use Rattle.std.proofs.Common.{◌≡◌, ◌≢◌, ◌∙◌, Bool, true, false, MatchBool, ℕ, zero, suc, ◌+◌, ◌≤◌, ◌<◌, List, [], ◌∷◌, ◌++◌, length, take, drop, get_or, slice_get, Some, sym, refl, ap, subst, inl, inr, arith}
use Rattle.std.proofs.lemmas.Bool.{cases_order}
use Rattle.certificate.specs.BoundCheck.{state_after}
use Rattle.certificate.specs.declared.parts.CertAnswer.{CertAnswer}
use Rattle.certificate.specs.declared.parts.CertRow.{CertRow}
use Rattle.certificate.specs.DepartureCheck.{BeginsWith, ComesAfter, Departs, DeparturesFail, DeparturesHold, FrontAt, IsFront, LeadsFor}
use Rattle.certificate_check.specs.Fronts.{AnswerFails, AnswerHolds, FrontFails, FrontHolds, IsHad, LeadsTo}
use Rattle.certificate_check.proofs.Onwards.{GoesOn}
use Rattle.certificate_check.proofs.Begins.{front_shorter, front_taken, some_at}
use Rattle.certificate_check.proofs.EachSoFar.{in_at}
use Rattle.certificate_check.proofs.FromFront.{split_at}
use Rattle.fare_law.specs.declared.moves.Move.{Move}
use Rattle.fare_law.specs.declared.requests.Request.{Request}
use Rattle.fare_law.specs.Book.{Book}
use Rattle.fare_law.specs.Lists.{Each, IsIn}
use Rattle.fare_law.specs.Parts.{price_of}
use Rattle.residual_keys.specs.Residuals.{Moves, State, begins, part_with}
use Rattle.residual_keys.proofs.OneNext.{moves_one}
use Rattle.certificate.proofs.YesIsBest.{root_same}
use Rattle.flight_paths.proofs.Skipping.{some_same}
use Rattle.law_lemmas.proofs.EachOne.{each_member}
use Rattle.law_lemmas.proofs.Lists.{front_is}

-- one move more
leads_push : (b : Book) (q : Request) (ms : List Move) (r x y : State) (price more : ℕ) (m : Move) → LeadsFor b q r ms x price → GoesOn b q x m y more → LeadsFor b q r (ms ++ m ∷ []) y (price + more)
leads_push b q [] r x y price more m h g =
    let p = h.1 in
    let c = g.costs in
    (g.flights, g.piece, g.at, g.units, 0, subst (λ z. Moves b q z m g.flights g.piece (Some g.at) g.units) h.0 g.moves, (g.left ∙ ap (λ z. state_after z m g.piece g.at g.units) h.0, refl), omega (arith, p, c))
leads_push b q (k ∷ ms) r x y price more m (fs, p, at, us, rest, mv, h, e) g =
    (fs, p, at, us, rest + more, mv, leads_push b q ms (state_after r k p at us) x y rest more m h g, omega (arith, e))

pub leads_next : (b : Book) (q : Request) (ms : List Move) (k : ℕ) (x y : State) (price more : ℕ) (m : Move) → k < length ms → m ≡ get_or ms k m → LeadsTo b q (take k ms) x price → GoesOn b q x m y more → LeadsTo b q (take (k + 1) ms) y (price + more)
leads_next b q ms k x y price more m lt is h g = (h.0, h.1, subst (λ z. LeadsFor b q h.0 z y (price + more)) (sym (front_is ms k m lt is)) (leads_push b q (take k ms) h.0 x y price more m h.2 g))

-- where a move doesn't go on, no longer front leads on
stops_from : (b : Book) (q : Request) (ms : List Move) (k n : ℕ) (r x y : State) (price other : ℕ) (m : Move) → k < length ms → m ≡ get_or ms k m → LeadsFor b q r (take k ms) x price → ((z : State) (c : ℕ) → GoesOn b q x m z c → ⊥)
    → k < n → LeadsFor b q r (take n ms) y other → ⊥
stops_from b q [] k n r x y price other m lt is h denied more l = omega (arith, lt)
stops_from b q (z ∷ zs) zero zero r x y price other m lt is h denied more l = omega (arith, more)
stops_from b q (z ∷ zs) zero (suc n) r x y price other m lt is h denied more (fs, p, at, us, rest, mv, l, e) =
    denied (state_after x m p at us) (price_of fs p) (record { flights = fs; piece = p; at = at; units = us; moves = subst (λ w. Moves b q w m fs p (Some at) us) (sym h.0) (subst (λ w. Moves b q r w fs p (Some at) us) (sym is) mv); left = refl; costs = refl })
stops_from b q (z ∷ zs) (suc k) zero r x y price other m lt is h denied more l = omega (arith, more)
stops_from b q (z ∷ zs) (suc k) (suc n) r x y price other m lt is (fs, p, at, us, rest, mv, h, e) denied more (gs, p', at', us', rest', mv', l, f) =
    let o = moves_one b q r z fs gs p p' (Some at) (Some at') us us' mv mv' in
    let a = some_same at at' o.2 in
    let s : state_after r z p' at' us' ≡ state_after r z p at us = λ i. record { at = sym a i; units = sym o.3 i; part = part_with r.part (begins z.role) (sym o.1 i) } in
    stops_from b q zs k n (state_after r z p at us) x y rest rest' m (omega (arith, lt)) is h denied (omega (arith, more)) (subst (λ w. LeadsFor b q w (take n zs) y rest') s l)

some_one : (a c : CertAnswer) → Some a ≡ Some c → a ≡ c
some_one a c e = cc

pub same_answer : (xs : List CertAnswer) (i : ℕ) (a c : CertAnswer) → i < length xs → a ≡ get_or xs i a → slice_get xs i ≡ Some c → a ≡ c
same_answer [] i a c lt is e = absurd (omega (arith, lt))
same_answer (x ∷ xs) zero a c lt is e = is ∙ some_one x c e
same_answer (x ∷ xs) (suc i) a c lt is e = same_answer xs i a c (omega (arith, lt)) is e

pub leads_on : (b c b' : Book) (q r q' : Request) (ms : List Move) (k taken : ℕ) (x y : State) (price more : ℕ) (m : Move) → c ≡ b → r ≡ q → b' ≡ b → q' ≡ q → k + 1 ≡ taken → k < length ms → m ≡ get_or ms k m → LeadsTo b q (take k ms) x price → GoesOn c r x m y more
    → LeadsTo b' q' (take taken ms) y (price + more)
leads_on b c b' q r q' ms k taken x y price more m ec er eb eq ek lt is h g =
    let on = subst (λ z. GoesOn b z x m y more) er (subst (λ z. GoesOn z r x m y more) ec g) in
    let there = subst (λ (n : ℕ). LeadsTo b q (take n ms) y (price + more)) ek (leads_next b q ms k x y price more m lt is h on) in
    subst (λ z. LeadsTo b' z (take taken ms) y (price + more)) (sym eq) (subst (λ z. LeadsTo z q (take taken ms) y (price + more)) (sym eb) there)

-- what is told of a front, or of an answer, of the same book and request

pub front_true : (b c : Book) (q r : Request) (rows : List CertRow) (answers : List CertAnswer) (front : List Move) (result : Bool) → c ≡ b → r ≡ q → result ≡ true → MatchBool result (FrontHolds c r rows answers front) (FrontFails c r rows answers front) → FrontHolds b q rows answers front
front_true b c q r rows answers front result eb eq so h =
    subst (λ z. FrontHolds b z rows answers front) eq (subst (λ z. FrontHolds z r rows answers front) eb (subst (λ z. MatchBool z (FrontHolds c r rows answers front) (FrontFails c r rows answers front)) so h))

pub front_false : (b c : Book) (q r : Request) (rows : List CertRow) (answers : List CertAnswer) (front : List Move) (result : Bool) → c ≡ b → r ≡ q → result ≡ false → MatchBool result (FrontHolds c r rows answers front) (FrontFails c r rows answers front) → FrontFails b q rows answers front
front_false b c q r rows answers front result eb eq so h =
    subst (λ z. FrontFails b z rows answers front) eq (subst (λ z. FrontFails z r rows answers front) eb (subst (λ z. MatchBool z (FrontHolds c r rows answers front) (FrontFails c r rows answers front)) so h))

pub answer_true : (b c : Book) (q r : Request) (rows : List CertRow) (answers : List CertAnswer) (a : CertAnswer) (result : Bool) → c ≡ b → r ≡ q → result ≡ true → MatchBool result (AnswerHolds c r rows answers a) (AnswerFails c r rows answers a) → AnswerHolds b q rows answers a
answer_true b c q r rows answers a result eb eq so h =
    subst (λ z. AnswerHolds b z rows answers a) eq (subst (λ z. AnswerHolds z r rows answers a) eb (subst (λ z. MatchBool z (AnswerHolds c r rows answers a) (AnswerFails c r rows answers a)) so h))

pub answer_false : (b c : Book) (q r : Request) (rows : List CertRow) (answers : List CertAnswer) (a : CertAnswer) (result : Bool) → c ≡ b → r ≡ q → result ≡ false → MatchBool result (AnswerHolds c r rows answers a) (AnswerFails c r rows answers a) → AnswerFails b q rows answers a
answer_false b c q r rows answers a result eb eq so h =
    subst (λ z. AnswerFails b z rows answers a) eq (subst (λ z. AnswerFails z r rows answers a) eb (subst (λ z. MatchBool z (AnswerHolds c r rows answers a) (AnswerFails c r rows answers a)) so h))

module _ (b : Book) (q : Request) (rows : List CertRow) (answers : List CertAnswer) where
  pub stops : (ms : List Move) (k n : ℕ) (x : State) (price : ℕ) (m : Move) → k < length ms → m ≡ get_or ms k m → LeadsTo b q (take k ms) x price → ((z : State) (c : ℕ) → GoesOn b q x m z c → ⊥) → k < n → FrontHolds b q rows answers (take n ms)
  stops ms k n x price m lt is h denied more mv least d =
      absurd (stops_from b q ms k n h.0 x d.there price d.price m lt is h.2 denied more (subst (λ z. LeadsFor b q z (take n ms) d.there d.price) (root_same b q d.root h.0 d.is_root h.1) d.leads))

  some_long : (front : List Move) → front ≢ [] → 1 ≤ length front
  some_long [] ne = absurd (ne refl)
  some_long (k ∷ front) ne = omega arith

  -- fronts of every length hold
  pub fronts_hold : (a : CertAnswer) (k : ℕ) → length a.moves ≤ k → ((n : ℕ) → 1 ≤ n → n < k → FrontHolds b q rows answers (take n a.moves)) → AnswerHolds b q rows answers a
  fronts_hold a k le h front ne begins =
      let s = front_shorter front a.moves begins.0 begins.1 begins.2 in
      subst (FrontHolds b q rows answers) (front_taken front a.moves begins.0 begins.1 begins.2) (h (length front) (some_long front ne) (omega (arith, s, le)))

  take_some : (ms : List Move) (n : ℕ) → 1 ≤ n → n < length ms → take n ms ≢ []
  take_some ms zero le lt = absurd (omega (arith, le))
  take_some [] (suc n) le lt = absurd (omega (arith, lt))
  take_some (z ∷ ms) (suc n) le lt = λ e. cc

  -- the same of moves that are the answer's

  pub all_held : (a : CertAnswer) (ms : List Move) (k : ℕ) → ms ≡ a.moves → length ms ≤ k → ((n : ℕ) → 1 ≤ n → n < k → FrontHolds b q rows answers (take n ms)) → AnswerHolds b q rows answers a
  all_held a ms k e le h = fronts_hold a k (let l = ap length e in omega (arith, l, le)) (subst (λ z. (n : ℕ) → 1 ≤ n → n < k → FrontHolds b q rows answers (take n z)) e h)

  pub stopped : (a : CertAnswer) (ms : List Move) (k : ℕ) (x : State) (price : ℕ) (m : Move) → ms ≡ a.moves → k < length ms → m ≡ get_or ms k m → LeadsTo b q (take k ms) x price → ((z : State) (c : ℕ) → GoesOn b q x m z c → ⊥)
      → ((n : ℕ) → 1 ≤ n → n < k + 1 → FrontHolds b q rows answers (take n ms)) → AnswerHolds b q rows answers a
  stopped a ms k x price m e lt is h denied held = all_held a ms (length ms) e (omega arith) by
    where
      by : (n : ℕ) → 1 ≤ n → n < length ms → FrontHolds b q rows answers (take n ms)
      by n le more = elim (cases_order k n) [
        | inl s ↦ held n le (omega (arith, s))
        | inr o ↦ elim o [
          | inl s ↦ stops ms k n x price m lt is h denied s
          | inr s ↦ held n le (omega (arith, s))
        ]
      ]

  pub hold_more : (ms : List Move) (k : ℕ) → ((n : ℕ) → 1 ≤ n → n < k → FrontHolds b q rows answers (take n ms)) → FrontHolds b q rows answers (take k ms) → (n : ℕ) → 1 ≤ n → n < k + 1 → FrontHolds b q rows answers (take n ms)
  hold_more ms k held now n le lt = elim (cases_order n k) [
    | inl s ↦ subst (λ z. FrontHolds b q rows answers (take z ms)) (sym s) now
    | inr o ↦ elim o [
      | inl s ↦ held n le s
      | inr s ↦ absurd (omega (arith, lt, s))
    ]
  ]

  pub begins_moves : (a : CertAnswer) (ms : List Move) (n : ℕ) → ms ≡ a.moves → n < length ms → BeginsWith a (take n ms)
  begins_moves a ms n e few = let m = some_at ms n few in (m.0, drop (suc n) ms, sym e ∙ split_at ms n m.0 few m.1)

  pub front_of : (i : ℕ) (a : CertAnswer) (ms : List Move) (n : ℕ) → i < length answers → a ≡ get_or answers i a → ms ≡ a.moves → n < length ms → IsFront answers (take n ms)
  front_of i a ms n lt is e few = inr (a, in_at answers i a lt is, begins_moves a ms n e few)

  pub fails_there : (a : CertAnswer) (ms : List Move) (n : ℕ) → ms ≡ a.moves → 1 ≤ n → n < length ms → FrontFails b q rows answers (take n ms) → AnswerFails b q rows answers a
  fails_there a ms n e le lt f = record { front = take n ms; some = take_some ms n le lt; begins = begins_moves a ms n e lt; fails = f }

  pub had_holds : (i : ℕ) (front : List Move) → 1 ≤ length front → Each (AnswerHolds b q rows answers) (take i answers) → IsHad (take i answers) front → FrontHolds b q rows answers front
  had_holds i front le all (a, j, begins) = each_member (AnswerHolds b q rows answers) a (take i answers) all j front (λ e. let l = ap length e in omega (arith, le, l)) begins

  pub root_fails : FrontFails b q rows answers [] → DeparturesFail b q rows answers 0
  root_fails f = record { front = []; move = f.move; least = f.least; departs = f.departs; at = inl (refl, refl); fails = f.fails; earlier = λ front m price place d at lt. absurd (omega (arith, lt)) }

  pub all_hold : FrontHolds b q rows answers [] → Each (AnswerHolds b q rows answers) answers → DeparturesHold b q rows answers
  all_hold root all front m least d = by front d d.is_front
    where
      by : (front : List Move) → Departs b q rows answers front m least → IsFront answers front → ComesAfter q answers (front ++ m ∷ []) least
      by [] d f = root m least d
      by (k ∷ front) d (inl e) = absurd (cc)
      by (k ∷ front) d (inr (a, i, begins)) = each_member (AnswerHolds b q rows answers) a answers all i (k ∷ front) (λ e. cc) begins m least d

  middle_taken : (xs before : List CertAnswer) (a : CertAnswer) (after : List CertAnswer) (i : ℕ) → xs ≡ before ++ a ∷ after → length before < i → IsIn a (take i xs)
  middle_taken xs before a after zero e lt = absurd (omega (arith, lt))
  middle_taken [] [] a after (suc i) e lt = absurd (cc)
  middle_taken [] (z ∷ before) a after (suc i) e lt = absurd (cc)
  middle_taken (x ∷ xs) [] a after (suc i) e lt = inl (let h : a ≡ x = cc in h)
  middle_taken (x ∷ xs) (z ∷ before) a after (suc i) e lt = inr (middle_taken xs before a after i (let t : xs ≡ before ++ a ∷ after = cc in t) (omega (arith, lt)))

  none_begins : (front : List Move) → front ≢ [] → FrontFails b q rows answers front → (xs : List CertAnswer) → Each (AnswerHolds b q rows answers) xs → Each (λ c. BeginsWith c front → ⊥) xs
  none_begins front ne f [] h = tt
  none_begins front ne f (x ∷ xs) h = (λ begins. f.fails (h.0 front ne begins f.move f.least f.departs), none_begins front ne f xs h.1)

  take_many : (xs : List CertAnswer) (i : ℕ) → i < length xs → length (take i xs) ≡ i
  take_many xs zero lt = refl
  take_many [] (suc i) lt = absurd (omega (arith, lt))
  take_many (x ∷ xs) (suc i) lt = ap suc (take_many xs i (omega (arith, lt)))

  pub answer_fails : (i : ℕ) (a : CertAnswer) → i < length answers → a ≡ get_or answers i a → FrontHolds b q rows answers [] → Each (AnswerHolds b q rows answers) (take i answers) → AnswerFails b q rows answers a
      → DeparturesFail b q rows answers (i + 1)
  answer_fails i a lt is root all f = record {
    front = f.front;
    move = f.fails.move;
    least = f.fails.least;
    departs = f.fails.departs;
    at = inr (f.some, take i answers, a, drop (suc i) answers, split_at answers i a lt is, none_begins f.front f.some f.fails (take i answers) all, f.begins, let l = take_many answers i lt in omega (arith, l));
    fails = f.fails.fails;
    earlier = λ front m price place d at below. earlier front m price place d at below;
  }
    where
      earlier : (front : List Move) (m : Move) (price place : ℕ) → Departs b q rows answers front m price → FrontAt answers front place → place < i + 1 → ComesAfter q answers (front ++ m ∷ []) price
      earlier front m price place d (inl (e, z)) below = subst (FrontHolds b q rows answers) (sym e) root m price d
      earlier front m price place d (inr (ne, before, c, after, whole, none, begins, counted)) below =
          each_member (AnswerHolds b q rows answers) c (take i answers) all (middle_taken answers before c after i whole (omega (arith, counted, below))) front ne begins m price d
