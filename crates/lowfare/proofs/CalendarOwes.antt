-- What a calendar makes it owes, and of one input it owes one status.
use Rattle.std.proofs.Common.{◌≡◌, ℕ, List, Option, refl, inl, inr}
use Rattle.whole_case.specs.Cases.{calendar_case}
use Rattle.whole_case.specs.Stages.{IsOne}
use Rattle.lowfare.specs.Makes.{Makes, Owes}
use Rattle.lowfare.specs.declared.status.Status.{Status}
use Rattle.lowfare.specs.declared.status.Status.TheVariants.{Done, Refused}
use Rattle.program_words.specs.declared.commands.Command.TheVariants.{Calendar}
use Rattle.lowfare.proofs.DoneOrRefused.{IsEither, one_of_two}

module _ (outs backs budget : ℕ) (at : Option ℕ) (bytes : List ℕ) where
  pub calendar_made : (status : Status) (text : List ℕ) → Makes (Calendar outs backs budget at) bytes status text → Owes (Calendar outs backs budget at) bytes status
  calendar_made Done text m = m.case
  calendar_made Refused text m = m.cause
  calendar_made other text m = absurd m

  by_status : (status : Status) → Owes (Calendar outs backs budget at) bytes status → IsEither (calendar_case outs backs at bytes) status
  by_status Done h = inl (refl, h.found, h.spelled)
  by_status Refused h = inr (refl, h)
  by_status other h = absurd h

  pub calendar_owes_one : IsOne (calendar_case outs backs at bytes) → (status due : Status) → Owes (Calendar outs backs budget at) bytes status → Owes (Calendar outs backs budget at) bytes due → status ≡ due
  calendar_owes_one one status due h k = one_of_two (calendar_case outs backs at bytes) one status due (by_status status h) (by_status due k)
