-- A source and a sink that fail at the calls whose numbers, counted from 1, are listed.
use Rattle.std.specs.Prelude.{◌≡◌, ℕ, List, Result, Contains, ◌↔◌, IsErr}
use Rattle.fare_io.specs.Counts.{raised, CountsFaults}
use Rattle.fare_io.specs.Memory.{Space}

-- the listed numbers, the number of the last call that was made, or 0, and the count of faults
pub record Counted : Type 0 where
  pub listed : List ℕ
  pub made : ℕ
  pub faults : ℕ

-- a call has the next number, up to the last value of a count; it fails exactly where its number is listed, and counts a
-- fault exactly then
pub record FailsAsListed {T E : Type 0} (old new : Counted) (result : Result T E) : Type 0 where
  pub numbered : new.made ≡ raised old.made
  pub fails : IsErr result ↔ Contains old.listed new.made
  pub counted : CountsFaults old.faults new.faults result
  pub same : new.listed ≡ old.listed

-- the bytes still to come, and the calls
pub record FailingSource : Type 0 where
  pub left : List ℕ
  pub calls : Counted

-- what it holds, how many bytes it takes in one call, and the calls
pub record FailingSink : Type 0 where
  pub space : Space
  pub step : ℕ
  pub calls : Counted
