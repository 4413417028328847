-- A line cut at its commas.
use Rattle.std.specs.Prelude.{◌≢◌, ◌==◌, ◌<◌, ℕ, List, [], ◌∷◌, if◌then◌else◌, All, Bool, nat_lt, not, ◌&&◌}
use Rattle.std.specs.List.{list_all}

-- the byte goes onto the first field
abbrev pub onto_first : ℕ → List (List ℕ) → List (List ℕ)
onto_first c [] = (c ∷ []) ∷ []
onto_first c (f ∷ fs) = (c ∷ f) ∷ fs

-- the fields of a line, of which there is at least one
abbrev pub cut : List ℕ → List (List ℕ)
cut [] = [] ∷ []
cut (c ∷ rest) = if c == 44 then [] ∷ cut rest else onto_first c (cut rest)

-- no quote, no end of line, and ASCII
pub record IsPlain (c : ℕ) : Type 0 where
  pub ascii : c < 128
  pub quote : c ≢ 34
  pub lf : c ≢ 10
  pub cr : c ≢ 13

-- a line that has only such bytes
abbrev pub IsPlainLine : List ℕ → Type 0
IsPlainLine line = All IsPlain line

-- the tests of such a byte and of such a line
abbrev pub plain_byte : ℕ → Bool
plain_byte c = nat_lt c 128 && not (c == 34) && not (c == 10) && not (c == 13)

abbrev pub plain_line : List ℕ → Bool
plain_line line = list_all plain_byte line
