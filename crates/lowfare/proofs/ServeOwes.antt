-- What a serving run makes it owes, and of one input it owes one status.
use Rattle.std.proofs.Common.{◌≡◌, ℕ, List, Option, refl, inl, inr}
use Rattle.whole_case.specs.ServeCases.{serve_case}
use Rattle.whole_case.specs.Stages.{IsOne}
use Rattle.lowfare.specs.Makes.{Makes, Owes}
use Rattle.lowfare.specs.declared.status.Status.{Status}
use Rattle.lowfare.specs.declared.status.Status.TheVariants.{Done, Refused}
use Rattle.program_words.specs.declared.commands.Command.TheVariants.{Serve}
use Rattle.lowfare.proofs.DoneOrRefused.{IsEither, one_of_two}

module _ (best : Option ℕ) (budget : ℕ) (bytes : List ℕ) where
  pub serve_made : (status : Status) (text : List ℕ) → Makes (Serve best budget) bytes status text → Owes (Serve best budget) bytes status
  serve_made Done text m = m.case
  serve_made Refused text m = m.cause
  serve_made other text m = absurd m

  by_status : (status : Status) → Owes (Serve best budget) bytes status → IsEither (serve_case best bytes) status
  by_status Done h = inl (refl, h.found, h.spelled)
  by_status Refused h = inr (refl, h)
  by_status other h = absurd h

  pub serve_owes_one : IsOne (serve_case best bytes) → (status due : Status) → Owes (Serve best budget) bytes status → Owes (Serve best budget) bytes due → status ≡ due
  serve_owes_one one status due h k = one_of_two (serve_case best bytes) one status due (by_status status h) (by_status due k)
