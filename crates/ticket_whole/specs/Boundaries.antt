-- Labels before and after a boundary between two components.
use Rattle.std.specs.Prelude.{ℕ, ◌<◌, List}
use Rattle.fare_law.specs.Lawful.{StandsOnBothSides}

-- No three labels stand on both sides.
abbrev pub AtMostTwo : List ℕ → List ℕ → Type 0
AtMostTwo before after =
    (u v w : ℕ) → u < v → v < w
    → StandsOnBothSides before after u → StandsOnBothSides before after v → StandsOnBothSides before after w → ⊥
