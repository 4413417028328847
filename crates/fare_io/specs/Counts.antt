-- Counts of faults and of stalls, which stay at their last value once they are there.
use Rattle.std.specs.Prelude.{◌≡◌, ◌⊎◌, ℕ, ◌+◌, ◌-◌, ◌^◌, ◌<◌, ◌≤◌, min, Result, IfOk, OnOk, OnErr}

-- the last value of a count
abbrev pub last_count : ℕ
last_count = 2 ^ 64 - 1

-- the count after one more
abbrev pub raised : ℕ → ℕ
raised count = min (count + 1) last_count

-- the count is greater than before, or stands at its last value
abbrev pub Rose : ℕ → ℕ → Type 0
Rose before now = (before < now) ⊎ (now ≡ last_count)

-- the count of faults never falls, and rose where the call failed
pub record FailsWithCause {T E : Type 0} (before now : ℕ) (result : Result T E) : Type 0 where
  pub later : before ≤ now
  pub failed : OnErr result (Rose before now)

-- the count of faults is one higher where the call failed, and as before where it didn't
pub record CountsFaults {T E : Type 0} (before now : ℕ) (result : Result T E) : Type 0 where
  pub failed : OnErr result (now ≡ raised before)
  pub steady : OnOk result (now ≡ before)

-- the count of stalls rose where the call took nothing of a piece that has bytes, and is as before after every other call
pub record CountsStalls {E : Type 0} (before now : ℕ) (result : Result ℕ E) (size : ℕ) : Type 0 where
  pub later : before ≤ now
  pub stalled : IfOk result (λ taken. taken ≡ 0 → 0 < size → Rose before now)
  pub took : IfOk result (λ taken. 0 < taken → now ≡ before)
  pub empty : size ≡ 0 → now ≡ before
  pub failed : OnErr result (now ≡ before)
