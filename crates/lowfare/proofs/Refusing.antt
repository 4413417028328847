-- A case that is refused, from what its reader gives.
use Rattle.std.proofs.Common.{◌≡◌, ℕ, List, Result, Err, IfOk, subst}
use Rattle.fare_law.specs.declared.mem.Mem.{Mem}
use Rattle.whole_case.specs.Stages.{Reads, Stage}
use Rattle.whole_case.specs.Texts.{refusal_text}
use Rattle.whole_case.specs.declared.refusals.LoadFault.{LoadFault}
use Rattle.whole_case.specs.declared.refusals.LoadFault.TheVariants.{Refused as RefusedCase}
use Rattle.whole_case.specs.declared.refusals.Refusal.{Refusal}
use Rattle.lowfare.specs.Refusals.{IsRefused}
use Rattle.lowfare.specs.declared.outcomes.Outcome.{Outcome}
use Rattle.lowfare.specs.declared.status.Status.{Status}
use Rattle.lowfare.specs.declared.status.Status.TheVariants.{Refused}
use Rattle.lowfare.proofs.Ending.{ends_with}

pub is_refused : {A : Type 0} (case : Stage A) (text : List ℕ) (fault : LoadFault) (refusal : Refusal) → Reads {A = A} (Err fault) case → fault ≡ RefusedCase refusal → text ≡ refusal_text refusal → IsRefused case text
is_refused {A} case text fault refusal reads is whole = record { cause = record { refusal = refusal; refused = subst (λ f. Reads {A = A} (Err f) case) is reads }; whole = whole }

-- what ended with the text of a refusal is what is made of a case that is refused
pub refused_ends : {A : Type 0} (case : Stage A) (Made : Status → List ℕ → Type 0) → ((text : List ℕ) → IsRefused case text → Made Refused text) → (r : Result Outcome Mem) (fault : LoadFault) (refusal : Refusal) → Reads {A = A} (Err fault) case → fault ≡ RefusedCase refusal
    → IfOk r (λ o. o.status ≡ Refused) → IfOk r (λ o. o.text ≡ refusal_text refusal) → IfOk r (λ o. Made o.status o.text)
refused_ends case Made made r fault refusal reads is status text =
    ends_with r Refused (λ t. t ≡ refusal_text refusal) Made (λ t whole. made t (is_refused case t fault refusal reads is whole)) status text
