-- Rows of spans, each from a low to a high, and marks that tell which of them hold a day.
use Rattle.std.specs.Prelude.{ℕ, ◌<◌, ◌↔◌, List, Bool, false, ℤ, pos, ◌≤ℤ◌, slice_index_or, IsTrue}

-- the day is from the low of row i to its high, both included
abbrev pub HoldsDay : List ℤ → List ℤ → ℤ → ℕ → Type 0
HoldsDay lows highs day i = (slice_index_or lows i (pos 0) ≤ℤ day) × (day ≤ℤ slice_index_or highs i (pos 0))

-- each of the first n marks is true exactly where its row holds the day
abbrev pub AreMarked : List ℤ → List ℤ → ℤ → List Bool → ℕ → Type 0
AreMarked lows highs day marks n = (i : ℕ) → i < n → (IsTrue (slice_index_or marks i false) ↔ HoldsDay lows highs day i)
