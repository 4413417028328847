-- What a command of the program makes of bytes in memory.
use Rattle.std.specs.Prelude.{◌≡◌, ◌≤◌, ◌<◌, ℕ, List, codes, length}
use Rattle.lowfare.specs.Inputs.{most_bytes}
use Rattle.lowfare.specs.Lines.{AreLine, AskForInput, Asks, IsRun, TakesInput}
use Rattle.lowfare.specs.Makes.{Makes}
use Rattle.lowfare.specs.declared.status.Status.{Status}
use Rattle.lowfare.specs.declared.status.Status.TheVariants.{Done, Refused, Usage, ReadFault, WriteFault, OutOfMemory, TooLarge, No, TooLong}
use Rattle.program_words.specs.declared.commands.Command.{Command}

-- The words are a command line of `run`, and of these bytes, where the command reads an input, it makes this text.
pub record MakesOf (status : Status) (words : List (List ℕ)) (input text : List ℕ) : Type 0 where
  pub command : Command
  pub asked : Asks IsRun words command
  pub bytes : List ℕ
  pub read : TakesInput command → (bytes ≡ input) × (length input ≤ most_bytes)
  pub made : Makes command bytes status text

-- what a run over memory replies
abbrev pub Ran : Status → List (List ℕ) → List ℕ → List ℕ → Type 0
Ran Done words input text = MakesOf Done words input text
Ran Refused words input text = MakesOf Refused words input text
Ran TooLarge words input text = MakesOf TooLarge words input text
Ran No words input text = MakesOf No words input text
Ran Usage words input text = (AreLine IsRun words → ⊥) × (text ≡ codes "usage: lowfare search|check|make|serve|calendar|verdict\n")
Ran TooLong words input text = AskForInput IsRun words × (most_bytes < length input) × (text ≡ codes "too long\n")
Ran ReadFault words input text = ⊥
Ran WriteFault words input text = ⊥
Ran OutOfMemory words input text = ⊥
