-- The script that lines spell, or the first line at fault.
use Rattle.std.specs.Prelude.{◌≡◌, ◌⊎◌, ◌++◌, ⊤, ℕ, List, [], ◌∷◌, Result, Ok, Err, codes, decimal}
use Rattle.std.specs.Int.{IsInRange}
use Rattle.fare_law.specs.Lists.{Each, Matched}
use Rattle.fare_law.specs.declared.rows.TextLine.{TextLine}
use Rattle.script_text.specs.declared.lines.Counts.{Counts}
use Rattle.script_text.specs.declared.lines.Script.{Script}
use Rattle.script_text.specs.declared.lines.ScriptLine.{ScriptLine}
use Rattle.script_text.specs.declared.lines.ScriptLine.TheVariants.{Search, Await}
use Rattle.script_text.specs.declared.faults.ScriptFault.{ScriptFault}
use Rattle.script_text.specs.declared.faults.ScriptFault.TheVariants.{Script as BadLine, Mem}
use Rattle.script_text.specs.Numbers.{IsNumberAfter, IsNoNumberAfter}

-- d search r, or d wait n
abbrev pub line_text : ScriptLine → List ℕ
line_text (Search desk request) = decimal desk ++ (codes " search " ++ decimal request)
line_text (Await desk count) = decimal desk ++ (codes " wait " ++ decimal count)

-- the desk is one of the desks, the request one of the requests, and no more is waited for than comes
abbrev pub IsWithin : Counts → ScriptLine → Type 0
IsWithin c (Search desk request) = IsInRange 1 c.desks desk × IsInRange 1 c.requests request
IsWithin c (Await desk count) = IsInRange 1 c.desks desk × IsInRange 0 c.later count

-- the text is that of a script line within the counts
pub record Spells (c : Counts) (text : List ℕ) (s : ScriptLine) : Type 0 where
  pub within : IsWithin c s
  pub written : text ≡ line_text s

abbrev pub SpellsNone : Counts → List ℕ → Type 0
SpellsNone c text = (s : ScriptLine) → Spells c text s → ⊥

-- the lines spell these script lines, one each
abbrev pub SpellsEach : Counts → List TextLine → List ScriptLine → Type 0
SpellsEach c lines ss = Matched (λ line s. Spells c line.bytes s) lines ss

-- the lines before it spell script lines, and the line of this number spells none
pub record FirstBad (c : Counts) (lines : List TextLine) (number : ℕ) : Type 0 where
  pub before : List TextLine
  pub bad : TextLine
  pub rest : List TextLine
  pub ss : List ScriptLine
  pub order : lines ≡ before ++ bad ∷ rest
  pub good : SpellsEach c before ss
  pub none : SpellsNone c bad.bytes
  pub here : number ≡ bad.line

-- the first line: desks n, with n from 1 to 8
abbrev pub SpellsDesks : List ℕ → ℕ → Type 0
SpellsDesks text n = IsNumberAfter (codes "desks ") 1 8 text n

abbrev pub SpellsNoDesks : List ℕ → Type 0
SpellsNoDesks text = IsNoNumberAfter (codes "desks ") 1 8 text

abbrev pub counts : ℕ → ℕ → ℕ → Counts
counts desks later requests = record { desks = desks; later = later; requests = requests }

-- the first line spells the count of desks, and the others what the desks do
abbrev pub SpellsScript : ℕ → ℕ → List TextLine → Script → Type 0
SpellsScript later requests [] s = ⊥
SpellsScript later requests (first ∷ rest) s = SpellsDesks first.bytes s.desks × SpellsEach (counts s.desks later requests) rest s.lines

-- the first line that isn't of its form has this number; where there is no line, it is 0
abbrev pub FaultAt : ℕ → ℕ → List TextLine → ℕ → Type 0
FaultAt later requests [] number = number ≡ 0
FaultAt later requests (first ∷ rest) number =
    (SpellsNoDesks first.bytes × (number ≡ first.line)) ⊎ ((desks : ℕ) × SpellsDesks first.bytes desks × FirstBad (counts desks later requests) rest number)

-- what is read is the script that the lines spell, or the number of the first line at fault, unless memory ran out
abbrev pub Reads : ℕ → ℕ → List TextLine → Result Script ScriptFault → Type 0
Reads later requests lines (Ok s) = SpellsScript later requests lines s
Reads later requests lines (Err (BadLine number)) = FaultAt later requests lines number
Reads later requests lines (Err Mem) = ⊤

-- likewise of the lines after the first
abbrev pub ReadsLines : Counts → List TextLine → Result (List ScriptLine) ScriptFault → Type 0
ReadsLines c lines (Ok ss) = SpellsEach c lines ss
ReadsLines c lines (Err (BadLine number)) = FirstBad c lines number
ReadsLines c lines (Err Mem) = ⊤

-- 1 to 8 desks, and lines within the counts
pub record IsScript (later requests : ℕ) (s : Script) : Type 0 where
  pub desks : IsInRange 1 8 s.desks
  pub lines : Each (IsWithin (counts s.desks later requests)) s.lines
