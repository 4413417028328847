-- The input of a command: all that the source has left, within the limit, and nothing where the command reads none.
use Rattle.std.specs.Prelude.{◌≡◌, ◌≤◌, ℕ, List, [], length, Option, Some}
use Rattle.fare_io.specs.Streams.{ReadsWhole}
use Rattle.lowfare.specs.Lines.{TakesInput}
use Rattle.program_words.specs.declared.commands.Command.{Command}

-- the most bytes that an input may have
abbrev pub most_bytes : ℕ
most_bytes = 67108864

-- the source was read to its end
pub record IsRead (left left' : Option (List ℕ)) (bytes : List ℕ) : Type 0 where
  pub whole : ReadsWhole left left' bytes
  pub fits : length bytes ≤ most_bytes

-- the source is as it was
pub record IsUnread (left left' : Option (List ℕ)) (bytes : List ℕ) : Type 0 where
  pub same : left' ≡ left
  pub empty : bytes ≡ []

-- These bytes were the command's input: before the source had `left`, and then `left'`.
pub record IsInput (c : Command) (left left' : Option (List ℕ)) (bytes : List ℕ) : Type 0 where
  pub read : TakesInput c → IsRead left left' bytes
  pub none : (TakesInput c → ⊥) → IsUnread left left' bytes

-- what the source has left is an input within the limit
pub record IsWithin (left : Option (List ℕ)) (bytes : List ℕ) : Type 0 where
  pub known : left ≡ Some bytes
  pub fits : length bytes ≤ most_bytes

-- The command gets these bytes from a source that has this left.
pub record Gets (c : Command) (left : Option (List ℕ)) (bytes : List ℕ) : Type 0 where
  pub read : TakesInput c → IsWithin left bytes
  pub none : (TakesInput c → ⊥) → bytes ≡ []
