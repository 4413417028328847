-- What a search makes it owes, and of one input it owes one status.
use Rattle.std.proofs.Common.{◌≡◌, ◌⊎◌, ℕ, List, Option, Ok, refl, sym, subst, ◌∙◌, inl, inr}
use Rattle.residual_keys.specs.Searches.{ReachesMoreThan}
use Rattle.whole_case.specs.Cases.{search_case}
use Rattle.whole_case.specs.Stages.{IsOne}
use Rattle.whole_case.specs.declared.search.SearchCase.{SearchCase}
use Rattle.lowfare.specs.Cases.{ExceedsBudget, FitsBudget}
use Rattle.lowfare.specs.Makes.{Makes, Owes}
use Rattle.lowfare.specs.Refusals.{HasRefusal}
use Rattle.lowfare.specs.declared.status.Status.{Status}
use Rattle.lowfare.specs.declared.status.Status.TheVariants.{Done, Refused, TooLarge}
use Rattle.program_words.specs.declared.commands.Command.TheVariants.{Search}
use Rattle.lowfare.proofs.Apart.{spelled_refused}
use Rattle.law_lemmas.proofs.Options.{ok_same}

module _ (best : Option ℕ) (budget : ℕ) (at : Option ℕ) (bytes : List ℕ) where
  pub search_made : (status : Status) (text : List ℕ) → Makes (Search best budget at) bytes status text → Owes (Search best budget at) bytes status
  search_made Done text m = m.case
  search_made TooLarge text m = m.case
  search_made Refused text m = m.cause
  search_made other text m = absurd m

  -- which status is owed, and what for
  abbrev Due : Status → Type 0
  Due status = ((status ≡ Done) × FitsBudget best budget at bytes) ⊎ (((status ≡ TooLarge) × ExceedsBudget best budget at bytes) ⊎ ((status ≡ Refused) × HasRefusal (search_case best at bytes)))

  by_status : (status : Status) → Owes (Search best budget at) bytes status → Due status
  by_status Done h = inl (refl, h)
  by_status TooLarge h = inr (inl (refl, h))
  by_status Refused h = inr (inr (refl, h))
  by_status other h = absurd h

  module _ (one : IsOne (search_case best at bytes)) where
    within_beyond : FitsBudget best budget at bytes → ExceedsBudget best budget at bytes → ⊥
    within_beyond f x =
        let same = ok_same x.found f.found (one (Ok x.found) (Ok f.found) x.spelled f.spelled) in
        f.few (subst (λ (found : SearchCase). ReachesMoreThan budget found.book found.request) same x.many)

    one_due : (status due : Status) → Due status → Due due → status ≡ due
    one_due status due (inl (e, f)) (inl (d, g)) = e ∙ sym d
    one_due status due (inl (e, f)) (inr (inl (d, g))) = absurd (within_beyond f g)
    one_due status due (inl (e, f)) (inr (inr (d, g))) = absurd (spelled_refused one f.found f.spelled g)
    one_due status due (inr (inl (e, f))) (inl (d, g)) = absurd (within_beyond g f)
    one_due status due (inr (inl (e, f))) (inr (inl (d, g))) = e ∙ sym d
    one_due status due (inr (inl (e, f))) (inr (inr (d, g))) = absurd (spelled_refused one f.found f.spelled g)
    one_due status due (inr (inr (e, f))) (inl (d, g)) = absurd (spelled_refused one g.found g.spelled f)
    one_due status due (inr (inr (e, f))) (inr (inl (d, g))) = absurd (spelled_refused one g.found g.spelled f)
    one_due status due (inr (inr (e, f))) (inr (inr (d, g))) = e ∙ sym d

    pub search_owes_one : (status due : Status) → Owes (Search best budget at) bytes status → Owes (Search best budget at) bytes due → status ≡ due
    search_owes_one status due h k = one_due status due (by_status status h) (by_status due k)
