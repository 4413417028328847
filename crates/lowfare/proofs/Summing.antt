-- The summary of a search: its certificate has few rows, and its line sums it up.
use Rattle.std.proofs.Common.{◌≡◌, ◌≤◌, ◌<◌, ◌↔◌, ℕ, List, [], ◌∷◌, length, map, option_map, slice_get, refl, sym, ap, subst, inl, inr, ◌∙◌}
use Rattle.std.proofs.lemmas.Bool.{cases_lt}
use Rattle.std.proofs.lemmas.List.{length-map}
use Rattle.case_maker.specs.SummaryLine.{summary_line}
use Rattle.case_maker.specs.declared.summary.Summary.{Summary}
use Rattle.certificate.specs.CertOf.{RowsAre}
use Rattle.certificate.specs.Checks.{Checks, OneFailure}
use Rattle.certificate.specs.declared.parts.CertRow.{CertRow}
use Rattle.certificate.specs.declared.parts.Certificate.{Certificate}
use Rattle.certificate_check.specs.Verdicts.{IsVerdict}
use Rattle.certificate_check.specs.declared.verdict.Verdict.{Verdict}
use Rattle.certificate_check.specs.declared.verdict.Verdict.TheVariants.{No}
use Rattle.fare_law.specs.Best.{Costs}
use Rattle.fare_law.specs.Book.{Book}
use Rattle.fare_law.specs.Lists.{Each}
use Rattle.fare_law.specs.declared.requests.Request.{Request}
use Rattle.fare_law.specs.declared.tickets.Priced.{Priced}
use Rattle.residual_keys.specs.Searches.{IsSize, ReachesMoreThan}
use Rattle.search_core.specs.declared.outcome.Answer.{Answer}
use Rattle.whole_case.specs.declared.search.SearchCase.{SearchCase}
use Rattle.lowfare.specs.Answered.{HasAnswer}
use Rattle.lowfare.specs.Made.{FirstCosts, SumsUp, summary_of}

-- the rows of a search are as many as its residuals, and so no more than the budget
pub few_rows : (b : Book) (q : Request) (budget : ℕ) (rows : List CertRow) → RowsAre b q rows → ((size n : ℕ) → IsSize b q size → ReachesMoreThan n b q ↔ (n < size)) → (ReachesMoreThan budget b q → ⊥) → length rows ≤ budget
few_rows b q budget rows are more few =
    let size : IsSize b q (length rows) = (map (λ row. row.residual) rows, are.need, sym (length-map rows _)) in
    elim (cases_lt budget (length rows)) [
      | inl many ↦ absurd (few ((more (length rows) budget size).1 many))
      | inr at_most ↦ at_most
    ]

-- the first of priced tickets, if there is one, costs its price
first_costs : (b : Book) (q : Request) (tickets : List Priced) → Each (λ t. Costs t.ticket b q t.price) tickets → FirstCosts b q (map (λ t. t.ticket) tickets) (option_map (λ t. t.price) (slice_get tickets 0))
first_costs b q [] costs = refl
first_costs b q (t ∷ ts) costs = (t.price, costs.0, refl)

-- the checks hold, so none fails
pub not_no : {rule place : ℕ} (c : Certificate) (b : Book) (q : Request) → OneFailure c b q → Checks c b q → (v : Verdict) → IsVerdict c b q v → v ≡ No rule place → ⊥
not_no {rule} {place} c b q one meets v told is = one.none meets rule place (subst (IsVerdict c b q) is told)

abbrev counted : Summary → ℕ → Summary
counted s tickets = record { seed = s.seed; size = s.size; flights = s.flights; residuals = s.residuals; tickets = tickets; cheapest = s.cheapest }

pub sums_up : (seed size budget : ℕ) (found : SearchCase) (a : Answer) (text : List ℕ) → HasAnswer budget found a → text ≡ summary_line (summary_of seed size found a) → SumsUp seed size found text
sums_up seed size budget found a text has whole = record {
  tickets = map (λ t. t.ticket) a.tickets;
  best = has.is.best;
  certificate = a.certificate;
  made = has.is.certificate;
  meets = has.meets;
  cheapest = option_map (λ t. t.price) (slice_get a.tickets 0);
  costs = first_costs found.book found.request a.tickets has.is.prices;
  whole = whole ∙ ap (λ n. summary_line (counted (summary_of seed size found a) n)) (sym (length-map a.tickets _));
}
