-- That a made case is never refused.
use Rattle.std.specs.Prelude.{ℕ, ◌≤◌, None, Err}
use Rattle.case_maker.specs.MadeCase.{made_case}
use Rattle.whole_case.specs.Cases.{search_case}
use Rattle.whole_case.specs.declared.refusals.Refusal.{Refusal}

-- no refusal is what the bytes of a made case come to
abbrev pub AreTaken : Type 0
AreTaken = (seed size : ℕ) → size ≤ 100 → (refusal : Refusal) → search_case None None (made_case seed size) (Err refusal) → ⊥
