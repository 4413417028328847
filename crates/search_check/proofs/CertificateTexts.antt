-- The certificate of a search has a text of its own: its answers are short runs, its rows what is reached, and neither are too many.
use Rattle.std.proofs.Common.{ℕ, ◌≤◌, ◌<◌, ◌^◌, List, [], ◌∷◌, length, map, Option, Some, None, IfSome, refl, sym, subst, inl, inr, arith}
use Rattle.std.proofs.lemmas.Bool.{cases_lt}
use Rattle.std.proofs.lemmas.List.{length-map}
use Rattle.certificate.specs.AnswerCheck.{run_of}
use Rattle.certificate.specs.CertOf.{RowsAre, SameByRuns}
use Rattle.certificate.specs.declared.parts.CertAnswer.{CertAnswer}
use Rattle.certificate.specs.declared.parts.CertRow.{CertRow}
use Rattle.certificate.specs.declared.parts.Certificate.{Certificate}
use Rattle.certificate_text.specs.Lines.{IsAnswer, IsRow}
use Rattle.fare_law.specs.declared.requests.Request.{Request}
use Rattle.fare_law.specs.Book.{Book}
use Rattle.fare_law.specs.Limits.{IsRequest}
use Rattle.fare_law.specs.Lists.{Each, IsIn}
use Rattle.residual_keys.specs.Residuals.{State}
use Rattle.residual_keys.specs.Searches.{IsDrawn, IsSize, Least, Reached, ReachesMoreThan}
use Rattle.residual_keys.specs.Short.{RunIsShort}
use Rattle.residual_keys.specs.Written.{ReachedIsWritten, RunsHaveCodes}
use Rattle.search_check.specs.Texts.{HasText, IsKept}
use Rattle.search_check.proofs.RunTexts.{LowCharges, moves_spelled, run_cheap}

-- the laws of the layers below
pub record Known (b : Book) (q : Request) : Type 0 where
  pub charges : LowCharges
  pub size : (size n : ℕ) → IsSize b q size → (n < size → ReachesMoreThan n b q)
  pub written : ReachedIsWritten b q
  pub codes : RunsHaveCodes b q
  pub short : RunIsShort b q
  pub runs : (c : Certificate) → SameByRuns c b q

module _ (b : Book) (q : Request) (known : Known b q) (kept : IsKept b) (request : IsRequest q) where
  answer_spelled : (a : CertAnswer) → IsDrawn b q (run_of a) → IsAnswer a
  answer_spelled a (at, root, run) =
      let code = known.codes a.moves a.price (at, root, run) in
      let few = code.few in
      let cheap = run_cheap b q kept.limits.fares known.charges a.moves _ a.price run in
      record { price = omega (arith, few, cheap); few = few; moves = moves_spelled b q a.moves _ a.price run code.each }

  answers_spelled : (answers : List CertAnswer) → Each (IsDrawn b q) (map run_of answers) → Each IsAnswer answers
  answers_spelled [] h = tt
  answers_spelled (a ∷ answers) h = (answer_spelled a h.0, answers_spelled answers h.1)

  bound_fits : (x : State) (bound : Option ℕ) → Least b q x bound → IfSome bound (λ n. n < 2 ^ 64)
  bound_fits x None h = tt
  bound_fits x (Some n) h =
      let ms = h.0.0 in
      let cheap = run_cheap b q kept.limits.fares known.charges ms x n h.0.1 in
      let short = known.short x ms n h.0.1 in
      let one = short.0 in
      let two = short.1 in
      let count = request.count in
      omega (arith, cheap, one, two, count)

  rows_spelled : (rows : List CertRow) → ((x : State) → IsIn x (map (λ row. row.residual) rows) → Reached b q x) → Each (λ row. Least b q row.residual row.bound) rows → Each IsRow rows
  rows_spelled [] reached least = tt
  rows_spelled (row ∷ rows) reached least = (
    record { residual = known.written row.residual (reached row.residual (inl refl)); bound = bound_fits row.residual row.bound least.0 },
    rows_spelled rows (λ x i. reached x (inr i)) least.1,
  )

  rows_few : (rows : List CertRow) (budget : ℕ) → (ReachesMoreThan budget b q → ⊥) → RowsAre b q rows → length rows ≤ budget
  rows_few rows budget few are = elim (cases_lt budget (length rows)) [
    | inr le ↦ le
    | inl more ↦ absurd (few (known.size (length rows) budget (map (λ row. row.residual) rows, are.need, sym (length-map rows (λ row. row.residual))) more))
  ]

  pub has_text : HasText b q
  has_text budget c small few h =
      let runs = (known.runs c kept.ascending).0 h in
      let answers = runs.runs.few in
      let best = request.best in
      let count = length-map c.answers run_of in
      let filings = kept.few in
      record {
        number = omega (arith, h.of.0, filings);
        request = subst IsRequest (sym h.of.1) request;
        answers = answers_spelled c.answers runs.runs.each;
        rows = rows_spelled c.rows (λ x i. (h.rows.need.are x).0 i) h.rows.bounds;
        answer_count = omega (arith, answers, best, count);
        row_count = omega (arith, small, rows_few c.rows budget few h.rows);
      }
