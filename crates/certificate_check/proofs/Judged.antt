-- The checks that hold, of a certificate's own rows and answers, and what the verdict says then.
use Rattle.std.proofs.Common.{◌≡◌, ◌≤◌, ℕ, List, length, Option, None, MatchOption, refl, subst, inr, arith}
use Rattle.certificate.specs.AnswerCheck.{AnswerRight, AnswersHold}
use Rattle.certificate.specs.BoundCheck.{BoundsHold}
use Rattle.certificate.specs.Checks.{Checks, FirstFailure}
use Rattle.certificate.specs.declared.parts.Certificate.{Certificate}
use Rattle.certificate.specs.declared.parts.CertAnswer.{CertAnswer}
use Rattle.certificate.specs.declared.parts.CertRow.{CertRow}
use Rattle.certificate.specs.DepartureCheck.{DeparturesHold}
use Rattle.certificate.specs.RequestCheck.{IsOf, IsOfAnother}
use Rattle.certificate.specs.RowCheck.{RowsHold}
use Rattle.certificate.proofs.ListFacts.{all_few}
use Rattle.certificate_check.proofs.LaterSteps.{same_said}
use Rattle.fare_law.specs.declared.requests.Request.{Request}
use Rattle.fare_law.specs.Book.{Book}

-- right answers are no more than are asked for
pub few_answers : (b : Book) (q : Request) (answers : List CertAnswer) → AnswersHold b q answers → length answers ≤ q.best
few_answers b q answers h = let few = all_few (AnswerRight b q) q.best 0 (λ before a r. let f = r.few in omega (arith, f)) answers h (omega arith) in omega (arith, few)

pub four_hold : (c : Certificate) (b d e : Book) (q r s : Request) (rows : List CertRow) (answers : List CertAnswer) → rows ≡ c.rows → answers ≡ c.answers → d ≡ b → r ≡ q → e ≡ b → s ≡ q → RowsHold b q rows → BoundsHold d r rows → AnswersHold b q answers
    → DeparturesHold e s rows answers → RowsHold b q c.rows × BoundsHold b q c.rows × AnswersHold b q c.answers × DeparturesHold b q c.rows c.answers
four_hold c b d e q r s rows answers er ea eb eq fb fq row bound answer departure = (
  subst (RowsHold b q) er row,
  subst (BoundsHold b q) er (same_said (λ x y. BoundsHold x y rows) b d q r eb eq bound),
  subst (AnswersHold b q) ea answer,
  subst (λ z. DeparturesHold b q z c.answers) er (subst (λ z. DeparturesHold b q rows z) ea (same_said (λ x y. DeparturesHold x y rows answers) b e q s fb fq departure)),
)

pub all_hold : (c : Certificate) (b : Book) (q : Request) → RowsHold b q c.rows × BoundsHold b q c.rows × AnswersHold b q c.answers × DeparturesHold b q c.rows c.answers → IsOf c b q → Checks c b q
all_hold c b q h o = record { rows = h.0; bounds = h.1; answers = h.2; departures = h.3; request = o }

pub last_fails : (c : Certificate) (b : Book) (q : Request) (place : ℕ) → RowsHold b q c.rows × BoundsHold b q c.rows × AnswersHold b q c.answers × DeparturesHold b q c.rows c.answers → IsOfAnother c b q place → FirstFailure c b q 5 place
last_fails c b q place h o = inr (h.0, inr (h.1, inr (h.2, inr (h.3, (refl, o)))))

pub none_case : {X : Type 0} (P : Type 0) (Q : X → Type 0) (o : Option X) → o ≡ None → MatchOption o P Q → P
none_case P Q o e h = subst (λ z. MatchOption z P Q) e h
