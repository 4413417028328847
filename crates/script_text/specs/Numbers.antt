-- Numbers in a text: decimal digits, without sign or leading zero.
use Rattle.std.specs.Prelude.{◌≡◌, ◌++◌, ℕ, List, decimal}
use Rattle.std.specs.Int.{IsInRange}

-- the text is the label and then the digits of the number, which lies from low to high
pub record IsNumberAfter (label : List ℕ) (low high : ℕ) (text : List ℕ) (n : ℕ) : Type 0 where
  pub range : IsInRange low high n
  pub written : text ≡ label ++ decimal n

-- the text is the label and such digits for no number
abbrev pub IsNoNumberAfter : List ℕ → ℕ → ℕ → List ℕ → Type 0
IsNoNumberAfter label low high text = (n : ℕ) → IsNumberAfter label low high text n → ⊥
