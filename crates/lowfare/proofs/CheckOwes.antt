-- What a check makes it owes, and of one input it owes one status.
use Rattle.std.proofs.Common.{◌≡◌, ◌⊎◌, ℕ, List, Option, Ok, refl, sym, subst, ◌∙◌, inl, inr}
use Rattle.certificate.specs.Checks.{Checks, OneFailure}
use Rattle.certificate.specs.declared.parts.Certificate.{Certificate}
use Rattle.fare_law.specs.Book.{Book}
use Rattle.fare_law.specs.declared.requests.Request.{Request}
use Rattle.whole_case.specs.Cases.{check_case}
use Rattle.whole_case.specs.Stages.{IsOne}
use Rattle.whole_case.specs.declared.check.CheckCase.{CheckCase}
use Rattle.lowfare.specs.Checked.{FailsCheck, MeetsChecks}
use Rattle.lowfare.specs.Makes.{Makes, Owes}
use Rattle.lowfare.specs.Refusals.{HasRefusal}
use Rattle.lowfare.specs.declared.status.Status.{Status}
use Rattle.lowfare.specs.declared.status.Status.TheVariants.{Done, Refused, No}
use Rattle.program_words.specs.declared.commands.Command.TheVariants.{Check}
use Rattle.lowfare.proofs.Apart.{spelled_refused}
use Rattle.law_lemmas.proofs.Options.{ok_same}

module _ (best at : Option ℕ) (bytes : List ℕ) where
  pub check_made : (status : Status) (text : List ℕ) → Makes (Check best at) bytes status text → Owes (Check best at) bytes status
  check_made Done text m = m.case
  check_made No text m = m.case
  check_made Refused text m = m.cause
  check_made other text m = absurd m

  -- which status is owed, and what for
  abbrev Due : Status → Type 0
  Due status = ((status ≡ Done) × MeetsChecks best at bytes) ⊎ (((status ≡ No) × FailsCheck best at bytes) ⊎ ((status ≡ Refused) × HasRefusal (check_case best at bytes)))

  by_status : (status : Status) → Owes (Check best at) bytes status → Due status
  by_status Done h = inl (refl, h)
  by_status No h = inr (inl (refl, h))
  by_status Refused h = inr (inr (refl, h))
  by_status other h = absurd h

  module _ (one : IsOne (check_case best at bytes)) (failure : (c : Certificate) (b : Book) (q : Request) → OneFailure c b q) where
    meets_fails : MeetsChecks best at bytes → FailsCheck best at bytes → ⊥
    meets_fails m f =
        let same = ok_same m.found f.found (one (Ok m.found) (Ok f.found) m.spelled f.spelled) in
        (failure f.found.certificate f.found.book f.found.request).none (subst (λ (found : CheckCase). Checks found.certificate found.book found.request) same m.meets) f.rule f.place f.fails

    one_due : (status due : Status) → Due status → Due due → status ≡ due
    one_due status due (inl (e, f)) (inl (d, g)) = e ∙ sym d
    one_due status due (inl (e, f)) (inr (inl (d, g))) = absurd (meets_fails f g)
    one_due status due (inl (e, f)) (inr (inr (d, g))) = absurd (spelled_refused one f.found f.spelled g)
    one_due status due (inr (inl (e, f))) (inl (d, g)) = absurd (meets_fails g f)
    one_due status due (inr (inl (e, f))) (inr (inl (d, g))) = e ∙ sym d
    one_due status due (inr (inl (e, f))) (inr (inr (d, g))) = absurd (spelled_refused one f.found f.spelled g)
    one_due status due (inr (inr (e, f))) (inl (d, g)) = absurd (spelled_refused one g.found g.spelled f)
    one_due status due (inr (inr (e, f))) (inr (inl (d, g))) = absurd (spelled_refused one g.found g.spelled f)
    one_due status due (inr (inr (e, f))) (inr (inr (d, g))) = e ∙ sym d

    pub check_owes_one : (status due : Status) → Owes (Check best at) bytes status → Owes (Check best at) bytes due → status ≡ due
    check_owes_one status due h k = one_due status due (by_status status h) (by_status due k)
