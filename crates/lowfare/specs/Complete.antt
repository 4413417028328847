-- Nothing valid is refused, and each answer comes where it is due.
use Rattle.std.specs.Prelude.{◌≡◌, ◌⊎◌, ◌<◌, ℕ, List, length, Option, Some}
use Rattle.fare_io.specs.Counts.{Rose}
use Rattle.lowfare.specs.Inputs.{Gets, most_bytes}
use Rattle.lowfare.specs.Lines.{AreLine, AskForInput, Asks, Carried}
use Rattle.lowfare.specs.Makes.{Owes}
use Rattle.lowfare.specs.declared.status.Status.{Status}
use Rattle.lowfare.specs.declared.status.Status.TheVariants.{Usage, OutOfMemory, TooLong}
use Rattle.program_words.specs.declared.commands.Command.{Command}

-- No count rose: that of the source's faults, of the sink's faults, of its stalls.
pub record NoneRose (r r' w w' s s' : ℕ) : Type 0 where
  pub reads : Rose r r' → ⊥
  pub writes : Rose w w' → ⊥
  pub stalls : Rose s s' → ⊥

-- the status is this one, unless memory ran out
abbrev pub IsOr : Status → Status → Type 0
IsOr status due = (status ≡ due) ⊎ (status ≡ OutOfMemory)

-- The status is the one that is due: to words that are no command line, to more bytes than the limit, and to the bytes of a command's input.
pub record IsComplete (carries : Carried) (status : Status) (words : List (List ℕ)) (left : Option (List ℕ)) : Type 0 where
  pub usage : (AreLine carries words → ⊥) → IsOr status Usage
  pub long : (bytes : List ℕ) → AskForInput carries words → left ≡ Some bytes → most_bytes < length bytes → IsOr status TooLong
  pub owed : (c : Command) (bytes : List ℕ) (due : Status) → Asks carries words c → Gets c left bytes → Owes c bytes due → IsOr status due
