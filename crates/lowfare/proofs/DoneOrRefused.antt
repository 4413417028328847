-- A command that ends with nothing but what its case is due, or with the refusal of the case, owes one of them.
use Rattle.std.proofs.Common.{◌≡◌, ◌⊎◌, Ok, sym, ◌∙◌, inl, inr}
use Rattle.whole_case.specs.Stages.{IsOne, Stage}
use Rattle.lowfare.specs.Refusals.{HasRefusal}
use Rattle.lowfare.specs.declared.status.Status.{Status}
use Rattle.lowfare.specs.declared.status.Status.TheVariants.{Done, Refused}
use Rattle.lowfare.proofs.Apart.{spelled_refused}

-- the case is spelled and done, or refused
abbrev pub IsEither : {A : Type 0} → Stage A → Status → Type 0
IsEither {A} case status = ((status ≡ Done) × (found : A) × case (Ok found)) ⊎ ((status ≡ Refused) × HasRefusal case)

pub one_of_two : {A : Type 0} (case : Stage A) → IsOne case → (status due : Status) → IsEither case status → IsEither case due → status ≡ due
one_of_two case one status due (inl (e, found, spelled)) (inl (d, other, also)) = e ∙ sym d
one_of_two case one status due (inl (e, found, spelled)) (inr (d, h)) = absurd (spelled_refused one found spelled h)
one_of_two case one status due (inr (e, h)) (inl (d, found, spelled)) = absurd (spelled_refused one found spelled h)
one_of_two case one status due (inr (e, h)) (inr (d, k)) = e ∙ sym d
