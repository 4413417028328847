-- The command line that words are.
use Rattle.std.specs.Prelude.{◌≡◌, ℕ, ◌==◌, ◌&&◌, Bool, false, not, List, [], ◌∷◌, length, Option, Some, None, is_none, option_and_then, Result, Ok, Err, codes, if◌then◌else◌}
use Rattle.std.specs.List.{list_all}
use Rattle.std.specs.Str.{bytes_eq}
use Rattle.fare_law.specs.declared.limits.TheConstants.{MOST_TICKETS}
use Rattle.clap.specs.Words.{Text, fault_of}
use Rattle.program_words.specs.Parser.{parser}
use Rattle.program_words.specs.Texts.{GivenTexts, texts_in}
use Rattle.program_words.specs.Numbers.{defaulted, optional, required}
use Rattle.program_words.specs.declared.commands.Command.{Command}
use Rattle.program_words.specs.declared.commands.Command.TheVariants.{Search, Check, Make, Serve, Calendar, Verdict}
use Rattle.program_words.specs.declared.faults.WordsFault.{WordsFault}
use Rattle.program_words.specs.declared.faults.WordsFault.TheVariants.{Usage, Mem}
use Rattle.program_words.specs.declared.limits.TheConstants.{DEFAULT_BUDGET, LAST_VERSION, MOST_BUDGET}

infixl 10 ◌>>=◌
abbrev pub ◌>>=◌ : {A B : Type 0} → Option A → (A → Option B) → Option B
None >>= f = None
(Some x) >>= f = f x

abbrev pub best_of : Option Text → Option (Option ℕ)
best_of = optional 1 MOST_TICKETS

abbrev pub budget_of : Option Text → Option ℕ
budget_of = defaulted 1 MOST_BUDGET DEFAULT_BUDGET

abbrev pub at_of : Option Text → Option (Option ℕ)
at_of = optional 0 LAST_VERSION

-- none of these options was given
abbrev pub are_absent : List (Option Text) → Bool
are_absent = list_all is_none

-- the flag was given
abbrev pub is_asked : Option Text → Bool
is_asked None = false
is_asked (Some text) = bytes_eq text (codes "true")

abbrev pub search_of : GivenTexts → Option Command
search_of t = if not (is_asked t.summary) && are_absent (t.seed ∷ t.size ∷ t.outs ∷ t.backs ∷ []) then (do
  best ← best_of t.best
  budget ← budget_of t.budget
  at ← at_of t.at
  Some (Search best budget at)) else None

abbrev pub check_of : GivenTexts → Option Command
check_of t = if not (is_asked t.summary) && are_absent (t.budget ∷ t.seed ∷ t.size ∷ t.outs ∷ t.backs ∷ []) then (do
  best ← best_of t.best
  at ← at_of t.at
  Some (Check best at)) else None

abbrev pub make_of : GivenTexts → Option Command
make_of t = if are_absent (t.best ∷ t.budget ∷ t.at ∷ t.outs ∷ t.backs ∷ []) then (do
  seed ← required 0 4294967295 t.seed
  size ← required 1 100 t.size
  Some (Make seed size (is_asked t.summary))) else None

abbrev pub serve_of : GivenTexts → Option Command
serve_of t = if not (is_asked t.summary) && are_absent (t.at ∷ t.seed ∷ t.size ∷ t.outs ∷ t.backs ∷ []) then (do
  best ← best_of t.best
  budget ← budget_of t.budget
  Some (Serve best budget)) else None

abbrev pub calendar_of : GivenTexts → Option Command
calendar_of t = if not (is_asked t.summary) && are_absent (t.best ∷ t.seed ∷ t.size ∷ []) then (do
  outs ← required 1 31 t.outs
  backs ← required 1 31 t.backs
  budget ← budget_of t.budget
  at ← at_of t.at
  Some (Calendar outs backs budget at)) else None

abbrev pub verdict_of : GivenTexts → Option Command
verdict_of t = if not (is_asked t.summary) && are_absent (t.best ∷ t.budget ∷ t.seed ∷ t.size ∷ t.outs ∷ t.backs ∷ []) then (do
  at ← at_of t.at
  Some (Verdict at)) else None

-- what the command of a name makes of the texts
abbrev pub named : GivenTexts → Text → Option Command
named t name = if bytes_eq name (codes "search") then search_of t
    else (if bytes_eq name (codes "check") then check_of t
    else (if bytes_eq name (codes "make") then make_of t
    else (if bytes_eq name (codes "serve") then serve_of t
    else (if bytes_eq name (codes "calendar") then calendar_of t
    else (if bytes_eq name (codes "verdict") then verdict_of t
    else None)))))

-- the command that the texts give
abbrev pub command_of : GivenTexts → Option Command
command_of t = option_and_then (named t) t.command

-- the command line that the words are: the parser finds no fault in them, and the texts give a command
abbrev pub line_of : List Text → Option Command
line_of words = if length (fault_of parser words) == 0 then command_of (texts_in words) else None

-- what was read is the command line that the words are; it is none exactly where the answer is `Usage`
abbrev pub ReadsLine : Result Command WordsFault → List Text → Type 0
ReadsLine (Ok c) words = line_of words ≡ Some c
ReadsLine (Err Usage) words = line_of words ≡ None
ReadsLine (Err Mem) words = Unit {0}
