-- No certificate is left out: where none of the checks is the first that fails, they hold. Given on to the crates above.
use Rattle.std.proofs.Common.{◌≡◌, ◌⊎◌, ℕ, zero, suc, ◌<◌, List, [], ◌∷◌, ◌++◌, length, sym, refl, ap, ◌∙◌, subst, inl, inr, arith}
use Rattle.std.proofs.lemmas.Bool.{cases_eq}
use Rattle.certificate.specs.declared.parts.CertAnswer.{CertAnswer}
use Rattle.certificate.specs.declared.parts.CertRow.{CertRow}
use Rattle.certificate.specs.declared.parts.Certificate.{Certificate}
use Rattle.certificate.specs.AnswerCheck.{AnswerRight}
use Rattle.certificate.specs.BoundCheck.{BoundRight}
use Rattle.certificate.specs.Checks.{Checks, FirstFailure}
use Rattle.certificate.specs.DepartureCheck.{BeginsWith, ComesAfter, Departs, DeparturesFail, DeparturesHold, FrontAt, IsFront}
use Rattle.certificate.specs.InOrder.{AllRight, FirstWrong}
use Rattle.certificate.specs.RequestCheck.{IsOf, IsOfAnother}
use Rattle.certificate.specs.RowCheck.{RowRight, RowsFail, RowsHold}
use Rattle.certificate.proofs.Decided.{front_decided}
use Rattle.fare_law.specs.declared.moves.Move.{Move}
use Rattle.fare_law.specs.declared.requests.Request.{Request}
use Rattle.fare_law.specs.Book.{Book}
use Rattle.fare_law.specs.Lists.{Each, IsIn, OnLast}
use Rattle.fare_law.specs.Codes.{run_code}
use Rattle.fare_law.specs.Best.{Before}
use Rattle.law_lemmas.proofs.Lists.{length_middle}

-- lists that are read from the front

all_more : {X : Type 0} (Right : List X → X → Type 0) (x : X) (xs : List X) → Right [] x → AllRight (λ before y. Right (x ∷ before) y) xs → AllRight Right (x ∷ xs)
all_more Right x xs r all [] y after e = let same : x ≡ y = cc in subst (Right []) same r
all_more Right x xs r all (z ∷ zs) y after e =
    let same : x ≡ z = cc in
    let rest : xs ≡ zs ++ y ∷ after = cc in
    subst (λ w. Right (w ∷ zs) y) same (all zs y after rest)

pub all_none : {X : Type 0} (Right : List X → X → Type 0) → AllRight Right []
all_none Right before x after e = absurd (omega (arith, ap length e, length_middle before x after))

first_or_all : {X : Type 0} (Right : List X → X → Type 0) (xs : List X) → (AllRight Right xs → ⊥) → ((place : ℕ) → FirstWrong Right xs place → ⊥) → ⊥
first_or_all Right [] not_all no_first = not_all (all_none Right)
first_or_all Right (x ∷ xs) not_all no_first = no_first 1 (record {
  before = [];
  wrong = x;
  after = xs;
  whole = refl;
  counted = refl;
  earlier = all_none Right;
  fails = λ r.
      first_or_all (λ before y. Right (x ∷ before) y) xs (λ all. not_all (all_more Right x xs r all))
      (λ place w. no_first (suc place) (record {
        before = x ∷ w.before;
        wrong = w.wrong;
        after = w.after;
        whole = ap (λ z. x ∷ z) w.whole;
        counted = ap suc w.counted;
        earlier = all_more Right x w.before r w.earlier;
        fails = w.fails;
      }));
})

-- the departures

no_more : {X : Type 0} (xs ys : List X) (y : X) → xs ++ [] ≡ xs ++ y ∷ ys → ⊥
no_more [] ys y e = omega (arith, ap length e)
no_more (x ∷ xs) ys y e = no_more xs ys y (let rest : xs ++ [] ≡ xs ++ y ∷ ys = cc in rest)

begins_decided : (a : CertAnswer) (front : List Move) → BeginsWith a front ⊎ (BeginsWith a front → ⊥)
begins_decided a front = go (front_decided front a.moves)
  where
    go : ((rest : List Move) × (a.moves ≡ front ++ rest)) ⊎ ((rest : List Move) → a.moves ≡ front ++ rest → ⊥) → BeginsWith a front ⊎ (BeginsWith a front → ⊥)
    go (inl ([], e)) = inr (λ h. no_more front h.1 h.0 (sym e ∙ h.2))
    go (inl (m ∷ rest, e)) = inl (m, rest, e)
    go (inr never) = inr (λ h. never (h.0 ∷ h.1) h.2)

-- the first answer that begins with this front
first_with : (answers : List CertAnswer) (front : List Move) (a : CertAnswer) → IsIn a answers → BeginsWith a front
    → (before : List CertAnswer) × (c : CertAnswer) × (after : List CertAnswer) × (answers ≡ before ++ c ∷ after) × Each (λ d. BeginsWith d front → ⊥) before × BeginsWith c front
first_with [] front a i h = absurd i
first_with (c ∷ answers) front a i h = go i (begins_decided c front) (λ j. first_with answers front a j h)
  where
    go : IsIn a (c ∷ answers) → BeginsWith c front ⊎ (BeginsWith c front → ⊥)
        → (IsIn a answers → (before : List CertAnswer) × (d : CertAnswer) × (after : List CertAnswer) × (answers ≡ before ++ d ∷ after) × Each (λ d. BeginsWith d front → ⊥) before × BeginsWith d front)
        → (before : List CertAnswer) × (d : CertAnswer) × (after : List CertAnswer) × (c ∷ answers ≡ before ++ d ∷ after) × Each (λ d. BeginsWith d front → ⊥) before × BeginsWith d front
    go j (inl b) rest = ([], c, answers, refl, tt, b)
    go (inl e) (inr n) rest = absurd (n (subst (λ z. BeginsWith z front) e h))
    go (inr j) (inr n) rest = let r = rest j in (c ∷ r.0, r.1, r.2, ap (λ z. c ∷ z) r.3, (n, r.4), r.5)

place_of : (answers : List CertAnswer) (front : List Move) → IsFront answers front → (place : ℕ) × FrontAt answers front place
place_of answers [] h = (0, inl (refl, refl))
place_of answers (m ∷ ms) (inl e) = absurd (omega (arith, ap length e))
place_of answers (m ∷ ms) (inr (a, i, h)) = let r = first_with answers (m ∷ ms) a i h in (suc (length r.0), inr ((λ e. omega (arith, ap length e)), r.0, r.1, r.2, r.3, r.4, r.5, refl))

on_last_decided : {X : Type 0} (P : X → Type 0) → ((x : X) → P x ⊎ (P x → ⊥)) → (xs : List X) → OnLast P xs ⊎ (OnLast P xs → ⊥)
on_last_decided P f [] = inr (λ h. h)
on_last_decided P f (x ∷ []) = f x
on_last_decided P f (x ∷ y ∷ ys) = on_last_decided P f (y ∷ ys)

-- what is used of the order by price and code: it is strict and total
module _ (never : (p : ℕ) (w : List ℕ) → Before p w p w → ⊥) (trans : (p q r : ℕ) (u v w : List ℕ) → Before p u q v → Before q v r w → Before p u r w) (total : (p q : ℕ) (v w : List ℕ) → Before p v q w ⊎ (((p ≡ q) × (v ≡ w)) ⊎ Before q w p v)) where
  before_decided : (p q : ℕ) (v w : List ℕ) → Before p v q w ⊎ (Before p v q w → ⊥)
  before_decided p q v w = go (total p q v w)
    where
      go : Before p v q w ⊎ (((p ≡ q) × (v ≡ w)) ⊎ Before q w p v) → Before p v q w ⊎ (Before p v q w → ⊥)
      go (inl h) = inl h
      go (inr (inl e)) = inr (λ h. never q w (subst (λ z. Before z w q w) e.0 (subst (λ z. Before p z q w) e.1 h)))
      go (inr (inr k)) = inr (λ h. never p v (trans p q p v w v h k))

  after_stable : (q : Request) (answers : List CertAnswer) (moves : List Move) (least : ℕ) → ((ComesAfter q answers moves least → ⊥) → ⊥) → ComesAfter q answers moves least
  after_stable q answers moves least h = (
    elim (cases_eq (length answers) q.best) [ inl e ↦ e | inr n ↦ absurd (h (λ k. n k.0)) ],
    elim (on_last_decided (λ a. Before a.price (run_code a.moves) least (run_code moves)) (λ a. before_decided a.price least (run_code a.moves) (run_code moves)) answers) [
      | inl l ↦ l
      | inr n ↦ absurd (h (λ k. n k.1))
    ],
  )

  module _ (b : Book) (q : Request) (rows : List CertRow) (answers : List CertAnswer) (none : (place : ℕ) → DeparturesFail b q rows answers place → ⊥) where
    up_to : (n : ℕ) (front : List Move) (m : Move) (least place : ℕ) → Departs b q rows answers front m least → FrontAt answers front place → place < n → ComesAfter q answers (front ++ m ∷ []) least
    up_to zero front m least place d at lt = absurd (omega (arith, lt))
    up_to (suc n) front m least place d at lt = after_stable q answers (front ++ m ∷ []) least (λ fails. none place (record {
      front = front;
      move = m;
      least = least;
      departs = d;
      at = at;
      fails = fails;
      earlier = λ front' m' price' place' d' at' lt'. up_to n front' m' price' place' d' at' (omega (arith, lt, lt'));
    }))

    departures_hold : DeparturesHold b q rows answers
    departures_hold front m least d = let p = place_of answers front d.is_front in up_to (suc p.0) front m least p.0 d p.1 (omega arith)

  pub some_failure : (c : Certificate) (b : Book) (q : Request) → (Checks c b q → ⊥) → ((rule place : ℕ) → FirstFailure c b q rule place → ⊥) → ⊥
  some_failure c b q fails none =
      rows_or (λ rows.
      first_or_all (BoundRight b q c.rows) c.rows (λ bounds.
      first_or_all (AnswerRight b q) c.answers (λ answers.
      let departures = departures_hold b q c.rows c.answers (λ place w. none 4 place (inr (rows, inr (bounds, inr (answers, inl (refl, w)))))) in
      request_or (λ is. fails (record { rows = rows; bounds = bounds; answers = answers; departures = departures; request = is }))
      (λ place w. none 5 place (inr (rows, inr (bounds, inr (answers, inr (departures, (refl, w))))))))
      (λ place w. none 3 place (inr (rows, inr (bounds, inl (refl, w))))))
      (λ place w. none 2 place (inr (rows, inl (refl, w)))))
      (λ place w. none 1 place (inl (refl, w)))
    where
      rows_or : (RowsHold b q c.rows → ⊥) → ((place : ℕ) → RowsFail b q c.rows place → ⊥) → ⊥
      rows_or no_rows no_place =
          first_or_all (RowRight b q) c.rows (λ all. no_place 0 (inr (all, (λ root. no_rows (all, root)), refl))) (λ place w. no_place place (inl w))

      request_or : (IsOf c b q → ⊥) → ((place : ℕ) → IsOfAnother c b q place → ⊥) → ⊥
      request_or no_is no_place = no_place 1 (inl ((λ e. no_place 2 (inr (e, (λ f. no_is (e, f)), refl))), refl))
