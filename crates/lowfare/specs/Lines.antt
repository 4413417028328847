-- The command lines of the two top calls: those of the commands that a call carries, and those of them that read an input.
use Rattle.std.specs.Prelude.{◌≡◌, ℕ, List, Some, IfSome}
use Rattle.std.specs.Int.{IsInRange}
use Rattle.program_words.specs.Lines.{line_of}
use Rattle.program_words.specs.declared.commands.Command.{Command}
use Rattle.program_words.specs.declared.commands.Command.TheVariants.{Search, Check, Make, Serve}

-- the commands that a call carries
abbrev pub Carried : Type 1
Carried = Command → Type 0

-- those of `serve`
abbrev pub IsServe : Carried
IsServe (Serve best budget) = Unit {0}
IsServe c = ⊥

-- those of `run`: all others
abbrev pub IsRun : Carried
IsRun (Serve best budget) = ⊥
IsRun c = Unit {0}

-- The words are this command line, of a command that the call carries.
pub record Asks (carries : Carried) (words : List (List ℕ)) (c : Command) : Type 0 where
  pub line : line_of words ≡ Some c
  pub carried : carries c

-- the words are a command line of the call
abbrev pub AreLine : Carried → List (List ℕ) → Type 0
AreLine carries words = (c : Command) × Asks carries words c

-- the command reads an input
abbrev pub TakesInput : Command → Type 0
TakesInput (Make seed size is_summary) = ⊥
TakesInput c = Unit {0}

-- the words are a command line of the call, of a command that reads an input
abbrev pub AskForInput : Carried → List (List ℕ) → Type 0
AskForInput carries words = (c : Command) × Asks carries words c × TakesInput c

-- the number of tickets, where it is given, is 1 to 1,000, and the size of a made case 1 to 100
abbrev pub HasRange : Command → Type 0
HasRange (Search best budget at) = IfSome best (IsInRange 1 1000)
HasRange (Check best at) = IfSome best (IsInRange 1 1000)
HasRange (Serve best budget) = IfSome best (IsInRange 1 1000)
HasRange (Make seed size is_summary) = IsInRange 1 100 size
HasRange c = Unit {0}
