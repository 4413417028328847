-- What a line of a script may name.
use Rattle.std.specs.Prelude.{ℕ, ◌≤◌, ◌<◌}
use Rattle.script_text.specs.declared.lines.ScriptLine.{ScriptLine}
use Rattle.script_text.specs.declared.lines.ScriptLine.TheVariants.{Search, Await}

-- the line is of one of so many desks, and waits for no more than so many filings
abbrev pub IsOfDesks : ℕ → ℕ → ScriptLine → Type 0
IsOfDesks desks later (Search desk request) = (1 ≤ desk) × (desk ≤ desks)
IsOfDesks desks later (Await desk count) = (1 ≤ desk) × (desk ≤ desks) × (count ≤ later)

-- what the line asks is one of so many asks, counted from 1
abbrev pub AsksWithin : ℕ → ScriptLine → Type 0
AsksWithin asks (Search desk request) = (0 < request) × (request ≤ asks)
AsksWithin asks (Await desk count) = Unit {0}
