-- Bytes that are no case of a command.
use Rattle.std.specs.Prelude.{◌≡◌, ℕ, List, Err}
use Rattle.whole_case.specs.Stages.{Stage}
use Rattle.whole_case.specs.Texts.{refusal_text}
use Rattle.whole_case.specs.declared.refusals.Refusal.{Refusal}

-- No case: this is the first reason, with its line.
pub record HasRefusal {A : Type 0} (case : Stage A) : Type 0 where
  pub refusal : Refusal
  pub refused : case (Err refusal)

-- The bytes spell no case, and the text names the line and the reason.
pub record IsRefused {A : Type 0} (case : Stage A) (text : List ℕ) : Type 0 where
  pub cause : HasRefusal case
  pub whole : text ≡ refusal_text cause.refusal
