-- What a sink in memory shows.
use Rattle.std.specs.Prelude.{ℕ, ◌-◌, List, length}

-- the bytes that it holds, how many it can hold, and how often it took nothing of a piece that has bytes
pub record Space : Type 0 where
  pub held : List ℕ
  pub room : ℕ
  pub stalls : ℕ

-- how many bytes still fit
abbrev pub free_of : Space → ℕ
free_of s = s.room - length s.held
