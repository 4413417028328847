-- There is one first failure, and none where the checks hold.
use Rattle.std.proofs.Common.{◌≡◌, ◌⊎◌, ℕ, zero, suc, ◌<◌, List, [], ◌∷◌, ◌++◌, length, sym, refl, ap, ap₂, ◌∙◌, inl, inr, arith}
use Rattle.certificate.specs.AnswerCheck.{AnswerRight}
use Rattle.certificate.specs.BoundCheck.{BoundRight}
use Rattle.certificate.specs.declared.parts.Certificate.{Certificate}
use Rattle.certificate.specs.declared.parts.CertRow.{CertRow}
use Rattle.certificate.specs.Checks.{Checks, FirstFailure, OneFailure}
use Rattle.certificate.specs.DepartureCheck.{DeparturesFail, DeparturesHold}
use Rattle.certificate.specs.InOrder.{AllRight, FirstWrong}
use Rattle.certificate.specs.RequestCheck.{IsOf, IsOfAnother}
use Rattle.certificate.specs.RowCheck.{RowRight, RowsFail, RowsHold}
use Rattle.certificate.specs.declared.parts.CertAnswer.{CertAnswer}
use Rattle.fare_law.specs.declared.requests.Request.{Request}
use Rattle.fare_law.specs.Book.{Book}

pub neither_less : (m n : ℕ) → (m < n → ⊥) → (n < m → ⊥) → m ≡ n
neither_less zero zero f g = refl
neither_less zero (suc n) f g = absurd (f (omega arith))
neither_less (suc m) zero f g = absurd (g (omega arith))
neither_less (suc m) (suc n) f g = ap suc (neither_less m n (λ l. f (omega (arith, l))) (λ l. g (omega (arith, l))))

-- of two fronts of one list the shorter is a front of the longer, and what follows it follows there
shorter : {X : Type 0} (xs ys : List X) (x y : X) (us vs : List X) → xs ++ x ∷ us ≡ ys ++ y ∷ vs → length xs < length ys → (rest : List X) × (ys ≡ xs ++ x ∷ rest)
shorter [] [] x y us vs e l = absurd (omega arith)
shorter [] (w ∷ ys) x y us vs e l = (ys, let same : x ≡ w = cc in ap (λ z. z ∷ ys) (sym same))
shorter (v ∷ xs) [] x y us vs e l = absurd (omega arith)
shorter (v ∷ xs) (w ∷ ys) x y us vs e l =
    let same : v ≡ w = cc in
    let rest : xs ++ x ∷ us ≡ ys ++ y ∷ vs = cc in
    let r = shorter xs ys x y us vs rest (omega (arith, l)) in
    (r.0, ap₂ (λ z zs. z ∷ zs) (sym same) r.1)

wrong_never : {X : Type 0} (Right : List X → X → Type 0) (xs : List X) (place : ℕ) → AllRight Right xs → FirstWrong Right xs place → ⊥
wrong_never Right xs place all h = h.fails (all h.before h.wrong h.after h.whole)

wrong_first : {X : Type 0} (Right : List X → X → Type 0) (xs : List X) (m n : ℕ) → FirstWrong Right xs m → FirstWrong Right xs n → m < n → ⊥
wrong_first Right xs m n h k l =
    let r = shorter h.before k.before h.wrong k.wrong h.after k.after (sym h.whole ∙ k.whole) (omega (arith, h.counted, k.counted, l)) in
    h.fails (k.earlier h.before h.wrong r.0 r.1)

wrong_one : {X : Type 0} (Right : List X → X → Type 0) (xs : List X) (m n : ℕ) → FirstWrong Right xs m → FirstWrong Right xs n → m ≡ n
wrong_one Right xs m n h k = neither_less m n (wrong_first Right xs m n h k) (wrong_first Right xs n m k h)

rows_never : (b : Book) (q : Request) (rows : List CertRow) (place : ℕ) → RowsHold b q rows → RowsFail b q rows place → ⊥
rows_never b q rows place h (inl w) = wrong_never (RowRight b q) rows place h.0 w
rows_never b q rows place h (inr w) = w.1 h.1

rows_one : (b : Book) (q : Request) (rows : List CertRow) (m n : ℕ) → RowsFail b q rows m → RowsFail b q rows n → m ≡ n
rows_one b q rows m n (inl h) (inl k) = wrong_one (RowRight b q) rows m n h k
rows_one b q rows m n (inl h) (inr k) = absurd (wrong_never (RowRight b q) rows m k.0 h)
rows_one b q rows m n (inr h) (inl k) = absurd (wrong_never (RowRight b q) rows n h.0 k)
rows_one b q rows m n (inr h) (inr k) = h.2 ∙ sym k.2

departures_first : (b : Book) (q : Request) (rows : List CertRow) (answers : List CertAnswer) (m n : ℕ) → DeparturesFail b q rows answers m → DeparturesFail b q rows answers n → m < n → ⊥
departures_first b q rows answers m n h k l = h.fails (k.earlier h.front h.move h.least m h.departs h.at l)

departures_one : (b : Book) (q : Request) (rows : List CertRow) (answers : List CertAnswer) (m n : ℕ) → DeparturesFail b q rows answers m → DeparturesFail b q rows answers n → m ≡ n
departures_one b q rows answers m n h k = neither_less m n (departures_first b q rows answers m n h k) (departures_first b q rows answers n m k h)

departures_never : (b : Book) (q : Request) (rows : List CertRow) (answers : List CertAnswer) (place : ℕ) → DeparturesHold b q rows answers → DeparturesFail b q rows answers place → ⊥
departures_never b q rows answers place h w = w.fails (h w.front w.move w.least w.departs)

request_one : (c : Certificate) (b : Book) (q : Request) (m n : ℕ) → IsOfAnother c b q m → IsOfAnother c b q n → m ≡ n
request_one c b q m n (inl h) (inl k) = h.1 ∙ sym k.1
request_one c b q m n (inl h) (inr k) = absurd (h.0 k.0)
request_one c b q m n (inr h) (inl k) = absurd (k.0 h.0)
request_one c b q m n (inr h) (inr k) = h.2 ∙ sym k.2

request_never : (c : Certificate) (b : Book) (q : Request) (place : ℕ) → IsOf c b q → IsOfAnother c b q place → ⊥
request_never c b q place h (inl k) = k.0 h.0
request_never c b q place h (inr k) = k.1 h.1

-- two that fail here are one, and two that hold here and fail later are one
or_else : {F G R S Hold Same : Type 0} → (F → G → Same) → (Hold → F → ⊥) → (Hold → G → ⊥) → (R → S → Same) → F ⊎ (Hold × R) → G ⊎ (Hold × S) → Same
or_else same left right further (inl h) (inl k) = same h k
or_else same left right further (inl h) (inr k) = absurd (left k.0 h)
or_else same left right further (inr h) (inl k) = absurd (right h.0 k)
or_else same left right further (inr h) (inr k) = further h.1 k.1

-- neither fails here nor later
nor_else : {F R Hold : Type 0} → (F → ⊥) → (R → ⊥) → F ⊎ (Hold × R) → ⊥
nor_else here later (inl h) = here h
nor_else here later (inr h) = later h.1

pub one_failure : (c : Certificate) (b : Book) (q : Request) → ((Checks c b q → ⊥) → ((rule place : ℕ) → FirstFailure c b q rule place → ⊥) → ⊥) → OneFailure c b q
one_failure c b q some = record {
  none = λ h rule place.
      nor_else (λ w. rows_never b q c.rows place h.rows w.1)
      (nor_else (λ w. wrong_never (BoundRight b q c.rows) c.rows place h.bounds w.1)
      (nor_else (λ w. wrong_never (AnswerRight b q) c.answers place h.answers w.1)
      (nor_else (λ w. departures_never b q c.rows c.answers place h.departures w.1)
      (λ w. request_never c b q place h.request w.1))));
  one = λ rule place rule' place'.
      or_else (λ h k. (h.0 ∙ sym k.0, rows_one b q c.rows place place' h.1 k.1))
      (λ h w. rows_never b q c.rows place h w.1) (λ h w. rows_never b q c.rows place' h w.1)
      (or_else (λ h k. (h.0 ∙ sym k.0, wrong_one (BoundRight b q c.rows) c.rows place place' h.1 k.1))
      (λ h w. wrong_never (BoundRight b q c.rows) c.rows place h w.1) (λ h w. wrong_never (BoundRight b q c.rows) c.rows place' h w.1)
      (or_else (λ h k. (h.0 ∙ sym k.0, wrong_one (AnswerRight b q) c.answers place place' h.1 k.1))
      (λ h w. wrong_never (AnswerRight b q) c.answers place h w.1) (λ h w. wrong_never (AnswerRight b q) c.answers place' h w.1)
      (or_else (λ h k. (h.0 ∙ sym k.0, departures_one b q c.rows c.answers place place' h.1 k.1))
      (λ h w. departures_never b q c.rows c.answers place h w.1) (λ h w. departures_never b q c.rows c.answers place' h w.1)
      (λ h k. (h.0 ∙ sym k.0, request_one c b q place place' h.1 k.1)))));
  some = some;
}
