-- The checks of a certificate, and the first of them that fails.
use Rattle.std.specs.Prelude.{◌≡◌, ◌⊎◌, ℕ}
use Rattle.certificate.specs.AnswerCheck.{AnswersHold, AnswersFail}
use Rattle.certificate.specs.BoundCheck.{BoundsHold, BoundsFail}
use Rattle.certificate.specs.declared.parts.Certificate.{Certificate}
use Rattle.certificate.specs.DepartureCheck.{DeparturesHold, DeparturesFail}
use Rattle.certificate.specs.RequestCheck.{IsOf, IsOfAnother}
use Rattle.certificate.specs.RowCheck.{RowsHold, RowsFail}
use Rattle.fare_law.specs.declared.requests.Request.{Request}
use Rattle.fare_law.specs.Book.{Book}

-- The five checks hold, which are numbered 1 to 5 in this order.
pub record Checks (c : Certificate) (b : Book) (q : Request) : Type 0 where
  pub rows : RowsHold b q c.rows
  pub bounds : BoundsHold b q c.rows
  pub answers : AnswersHold b q c.answers
  pub departures : DeparturesHold b q c.rows c.answers
  pub request : IsOf c b q

-- The first check that fails, by its number, and the place where it fails.
abbrev pub FirstFailure : Certificate → Book → Request → ℕ → ℕ → Type 0
FirstFailure c b q rule place =
    ((rule ≡ 1) × RowsFail b q c.rows place)
    ⊎ (RowsHold b q c.rows × (((rule ≡ 2) × BoundsFail b q c.rows place)
    ⊎ (BoundsHold b q c.rows × (((rule ≡ 3) × AnswersFail b q c.answers place)
    ⊎ (AnswersHold b q c.answers × (((rule ≡ 4) × DeparturesFail b q c.rows c.answers place)
    ⊎ (DeparturesHold b q c.rows c.answers × ((rule ≡ 5) × IsOfAnother c b q place))))))))

-- A certificate has one first failure, or none where its checks hold, and no certificate is left out: it can't be that the checks don't hold and none fails first.
pub record OneFailure (c : Certificate) (b : Book) (q : Request) : Type 0 where
  pub none : Checks c b q → (rule place : ℕ) → FirstFailure c b q rule place → ⊥
  pub one : (rule place rule' place' : ℕ) → FirstFailure c b q rule place → FirstFailure c b q rule' place' → (rule ≡ rule') × (place ≡ place')
  pub some : (Checks c b q → ⊥) → ((rule place : ℕ) → FirstFailure c b q rule place → ⊥) → ⊥
