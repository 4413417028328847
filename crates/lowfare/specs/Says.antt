-- What each status says of the words, of what the source had left and the sink held, and of the counts, before and after.
use Rattle.std.specs.Prelude.{◌≡◌, ◌⊎◌, ℕ, List, codes, Option}
use Rattle.std.specs.Io.KnownBytes.{Appends}
use Rattle.fare_io.specs.Counts.{Rose}
use Rattle.fare_io.specs.Streams.{AppendsFront, ReadsPast}
use Rattle.lowfare.specs.Inputs.{IsInput, most_bytes}
use Rattle.lowfare.specs.Lines.{AreLine, AskForInput, Asks, Carried}
use Rattle.lowfare.specs.Makes.{Makes}
use Rattle.lowfare.specs.declared.status.Status.{Status}
use Rattle.lowfare.specs.declared.status.Status.TheVariants.{Done, Refused, Usage, ReadFault, WriteFault, OutOfMemory, TooLarge, No, TooLong}
use Rattle.program_words.specs.declared.commands.Command.{Command}

-- The words are a command line of the call, and of its input, for which the source was read to its end, the command makes this text.
pub record Ends (carries : Carried) (status : Status) (words : List (List ℕ)) (left left' : Option (List ℕ)) (text : List ℕ) : Type 0 where
  pub command : Command
  pub asked : Asks carries words command
  pub bytes : List ℕ
  pub input : IsInput command left left' bytes
  pub made : Makes command bytes status text

-- what the words and what was read make due: a status with its text
abbrev pub Due : Carried → Status → List (List ℕ) → Option (List ℕ) → Option (List ℕ) → List ℕ → Type 0
Due carries Done words left left' text = Ends carries Done words left left' text
Due carries Refused words left left' text = Ends carries Refused words left left' text
Due carries TooLarge words left left' text = Ends carries TooLarge words left left' text
Due carries No words left left' text = Ends carries No words left left' text
Due carries Usage words left left' text = (AreLine carries words → ⊥) × (left' ≡ left) × (text ≡ codes "usage: lowfare search|check|make|serve|calendar|verdict\n")
Due carries TooLong words left left' text = AskForInput carries words × ReadsPast left left' most_bytes × (text ≡ codes "too long\n")
Due carries ReadFault words left left' text = ⊥
Due carries WriteFault words left left' text = ⊥
Due carries OutOfMemory words left left' text = ⊥

-- The text that was due was written whole.
pub record Written (carries : Carried) (status : Status) (words : List (List ℕ)) (left left' held held' : Option (List ℕ)) : Type 0 where
  pub text : List ℕ
  pub due : Due carries status words left left' text
  pub whole : Appends held held' text

-- A front of a text that was due was written, and a count of the sink rose.
pub record Broken (carries : Carried) (words : List (List ℕ)) (left left' held held' : Option (List ℕ)) (w w' s s' : ℕ) : Type 0 where
  pub status : Status
  pub text : List ℕ
  pub due : Due carries status words left left' text
  pub front : AppendsFront held held' text
  pub cause : Rose w w' ⊎ Rose s s'

-- Of a call that carries such commands: r and r' are the source's count of faults, w and w' the sink's, s and s' its count of stalls
abbrev pub Says : Carried → Status → List (List ℕ) → Option (List ℕ) → Option (List ℕ) → Option (List ℕ) → Option (List ℕ) → ℕ → ℕ → ℕ → ℕ → ℕ → ℕ → Type 0
Says carries ReadFault words left left' held held' r r' w w' s s' = AskForInput carries words × Rose r r' × (held' ≡ held)
Says carries WriteFault words left left' held held' r r' w w' s s' = Broken carries words left left' held held' w w' s s'
Says carries OutOfMemory words left left' held held' r r' w w' s s' = held' ≡ held
Says carries status words left left' held held' r r' w w' s s' = Written carries status words left left' held held'
