-- Runs of entries: those one after another that are filed the same way and have one mark, none cheaper than the one before it.
use Rattle.std.specs.Prelude.{◌≡◌, ◌≤◌, ◌<◌, ◌+◌, ℕ, List, Some, length, slice_get}
use Rattle.outlines.specs.declared.outline.Entry.{Entry}
use Rattle.search_steps.specs.declared.numbered.Step.{Step}
use Rattle.search_steps.specs.Shortening.{HaveOneMark}

-- The entry is filed the same way as the one before it, has its mark, and costs no less.
pub record IsAlike (entry next : Entry) (step next_step : Step) : Type 0 where
  pub way : entry.outline.reverse ≡ next.outline.reverse
  pub mark : HaveOneMark step next_step
  pub price : step.price ≤ next_step.price

-- of so many entries from a place on each but the first is alike to the one before it
abbrev pub IsRun : List Entry → List Step → ℕ → ℕ → Type 0
IsRun entries bare from count =
    (at : ℕ) (entry next : Entry) (step next_step : Step) → from ≤ at → at + 1 < from + count → slice_get entries at ≡ Some entry → slice_get entries (at + 1) ≡ Some next → slice_get bare at ≡ Some step → slice_get bare (at + 1) ≡ Some next_step
    → IsAlike entry next step next_step

-- So many entries of a run there are from a place on, the one there among them.
pub record IsRunAt (entries : List Entry) (bare : List Step) (at count : ℕ) : Type 0 where
  pub some : 1 ≤ count
  pub within : at + count ≤ length entries
  pub run : IsRun entries bare at count

-- for each entry so many of its run there are from it on
pub record AreRuns (entries : List Entry) (bare : List Step) (counts : List ℕ) : Type 0 where
  pub many : length counts ≡ length entries
  pub each : (at count : ℕ) → slice_get counts at ≡ Some count → IsRunAt entries bare at count
