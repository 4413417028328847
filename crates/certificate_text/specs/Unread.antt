-- What is left of the lines from which a certificate is read.
use Rattle.std.specs.Prelude.{◌≡◌, ◌+◌, ◌<◌, ◌^◌, ℕ, List, [], ◌∷◌, ◌++◌, length}
use Rattle.certificate_text.specs.declared.unread.Lines.{Lines}
use Rattle.certificate_text.specs.declared.unread.Lines.TheVariants.{Text as TextOf, Numbered as NumberedOf}
use Rattle.fare_law.specs.declared.rows.TextLine.{TextLine}
use Rattle.word_text.specs.Words.{IsFreeOf}

-- a text from the line of a number on, or lines that have their numbers, with the number of a line that is missing after them
pub data Unread : Type 0 where
  Text : List ℕ → ℕ → Unread
  Numbered : List TextLine → ℕ → Unread

abbrev pub unread : Lines → Unread
unread (TextOf text number) = Text text.now number
unread (NumberedOf lines end) = Numbered lines.now end

-- the first line, and what is left after it: in a text a line feed ends it
abbrev pub Takes : Unread → List ℕ → Unread → Type 0
Takes (Text text number) line left = (more : List ℕ) × IsFreeOf 10 line × (text ≡ line ++ 10 ∷ more) × (left ≡ Text more (number + 1))
Takes (Numbered [] end) line left = ⊥
Takes (Numbered (l ∷ ls) end) line left = (line ≡ l.bytes) × (left ≡ Numbered ls end)

-- these lines one after another, and what is left after them
abbrev pub TakesAll : Unread → List (List ℕ) → Unread → Type 0
TakesAll from [] left = from ≡ left
TakesAll from (line ∷ lines) left = (next : Unread) × Takes from line next × TakesAll next lines left

-- the first line is this one
abbrev pub Begins : Unread → List ℕ → Type 0
Begins from line = (left : Unread) × Takes from line left

-- nothing is left
abbrev pub IsOver : Unread → Type 0
IsOver (Text text number) = text ≡ []
IsOver (Numbered lines end) = lines ≡ []

-- the number of the first line, or of the line that is missing
abbrev pub place : Unread → ℕ
place (Text text number) = number
place (Numbered [] end) = end
place (Numbered (l ∷ ls) end) = l.line

-- the numbers of a text's lines fit 32 bits
abbrev pub HasRoom : Unread → Type 0
HasRoom (Text text number) = number + length text < 2 ^ 32
HasRoom (Numbered lines end) = Unit {0}
