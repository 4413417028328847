-- Lines have one reading.
use Rattle.std.specs.Prelude.{◌≡◌, ◌<◌, ◌^◌, ℕ, List}
use Rattle.fare_law.specs.declared.rows.TextLine.{TextLine}
use Rattle.script_text.specs.declared.lines.Script.{Script}
use Rattle.script_text.specs.Script.{SpellsScript, FaultAt}

-- they spell at most one script
abbrev pub OneScript : Type 0
OneScript =
    (later requests : ℕ) (lines : List TextLine) (s t : Script)
    → later < 2 ^ 32 → requests < 2 ^ 32 → SpellsScript later requests lines s → SpellsScript later requests lines t → s ≡ t

-- where they spell one, none is at fault
abbrev pub ScriptOrFault : Type 0
ScriptOrFault =
    (later requests : ℕ) (lines : List TextLine) (s : Script) (number : ℕ)
    → SpellsScript later requests lines s → FaultAt later requests lines number → ⊥

-- at most one number is that of the first line at fault
abbrev pub OneFault : Type 0
OneFault =
    (later requests : ℕ) (lines : List TextLine) (m n : ℕ)
    → FaultAt later requests lines m → FaultAt later requests lines n → m ≡ n
