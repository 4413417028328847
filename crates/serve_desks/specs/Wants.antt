-- How often memory was wanting.
use Rattle.std.specs.Prelude.{◌≡◌, ℕ, ◌<◌, Result, OnErr, OnOk}

-- the count is higher where the call wanted memory, and as before where it didn't
pub record CountsWants {T E : Type 0} (before now : ℕ) (result : Result T E) : Type 0 where
  pub wanted : OnErr result (before < now)
  pub ample : OnOk result (now ≡ before)
