-- What a verdict makes it owes, and of one input it owes one status.
use Rattle.std.proofs.Common.{◌≡◌, ℕ, List, Option, refl, inl, inr}
use Rattle.whole_case.specs.Cases.{verdict_case}
use Rattle.whole_case.specs.Stages.{IsOne}
use Rattle.lowfare.specs.Makes.{Makes, Owes}
use Rattle.lowfare.specs.declared.status.Status.{Status}
use Rattle.lowfare.specs.declared.status.Status.TheVariants.{Done, Refused}
use Rattle.program_words.specs.declared.commands.Command.TheVariants.{Verdict}
use Rattle.lowfare.proofs.DoneOrRefused.{IsEither, one_of_two}

module _ (at : Option ℕ) (bytes : List ℕ) where
  pub verdict_made : (status : Status) (text : List ℕ) → Makes (Verdict at) bytes status text → Owes (Verdict at) bytes status
  verdict_made Done text m = m.case
  verdict_made Refused text m = m.cause
  verdict_made other text m = absurd m

  by_status : (status : Status) → Owes (Verdict at) bytes status → IsEither (verdict_case at bytes) status
  by_status Done h = inl (refl, h.found, h.spelled)
  by_status Refused h = inr (refl, h)
  by_status other h = absurd h

  pub verdict_owes_one : IsOne (verdict_case at bytes) → (status due : Status) → Owes (Verdict at) bytes status → Owes (Verdict at) bytes due → status ≡ due
  verdict_owes_one one status due h k = one_of_two (verdict_case at bytes) one status due (by_status status h) (by_status due k)
