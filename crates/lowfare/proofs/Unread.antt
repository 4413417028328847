-- The input of a command: what was read to the end, or nothing. A source that wasn't read gave no byte.
use Rattle.std.proofs.Common.{◌≤◌, ℕ, List, [], length, Option, None, Some, refl, arith}
use Rattle.fare_io.specs.Streams.{GivesAtMost, ReadsWhole}
use Rattle.lowfare.specs.Inputs.{IsInput, most_bytes}
use Rattle.lowfare.specs.Lines.{TakesInput}
use Rattle.program_words.specs.declared.commands.Command.{Command}

pub gave_nothing : (left : Option (List ℕ)) (most : ℕ) → GivesAtMost left left most
gave_nothing None most = tt
gave_nothing (Some all) most = record { count = 0; within = omega arith; rest = refl }

-- what was read to the end is a command's input
pub input_read : (c : Command) (left left' : Option (List ℕ)) (bytes : List ℕ) → TakesInput c → ReadsWhole left left' bytes → length bytes ≤ most_bytes → IsInput c left left' bytes
input_read c left left' bytes takes whole fits = record { read = λ _. record { whole = whole; fits = fits }; none = λ not. absurd (not takes) }

-- a command without input gets nothing
pub input_none : (c : Command) (left : Option (List ℕ)) → (TakesInput c → ⊥) → IsInput c left left []
input_none c left not = record { read = λ takes. absurd (not takes); none = λ _. record { same = refl; empty = refl } }
