-- Bytes that spell a case have no refusal.
use Rattle.std.proofs.Common.{Ok, Err}
use Rattle.whole_case.specs.Stages.{IsOne, Stage}
use Rattle.lowfare.specs.Refusals.{HasRefusal}
use Rattle.law_lemmas.proofs.Options.{ok_or_fault}

pub spelled_refused : {A : Type 0} {case : Stage A} → IsOne case → (found : A) → case (Ok found) → HasRefusal case → ⊥
spelled_refused one found p h = ok_or_fault found h.refusal (one (Ok found) (Err h.refusal) p h.refused)
