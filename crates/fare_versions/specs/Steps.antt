-- The rule of a history, and what the step that adds to it tells.
use Rattle.std.specs.Prelude.{◌≡◌, ℕ, ◌==◌, true, List, [], ◌∷◌, ◌++◌, length, MatchBool}
use Rattle.logbook.specs.Pages.{Cell, Named, Step, View}
use Rattle.fare_law.specs.declared.filings.Filing.{Filing}
use Rattle.fare_versions.specs.Histories.{House}

-- the first word is the length of the history; the second isn't used
abbrev pub IsCounted : List Cell → List Filing → Type 0
IsCounted cells entries = cells ≡ (length entries, true) ∷ (0, true) ∷ []

-- the word of a house
abbrev pub word_of : House → Named
word_of house = record { tracked = true; key = 0; book = house }

-- the entry was added to all that had been seen; or the history was longer
abbrev pub Adds : Step Filing → View Filing ℕ → ℕ → View Filing ℕ → Type 0
Adds s before found after = MatchBool (found == s.old) (after.0 ≡ before.0 ++ s.ask ∷ []) (length after.0 ≡ found)
