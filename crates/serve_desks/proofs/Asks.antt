-- What the lines of a script may name, one by one.
use Rattle.std.proofs.Common.{ℕ, List, All, slice_index_or}
use Rattle.fare_law.specs.Lists.{Each}
use Rattle.script_text.specs.Script.{IsWithin, counts}
use Rattle.script_text.specs.declared.lines.ScriptLine.{ScriptLine}
use Rattle.script_text.specs.declared.lines.ScriptLine.TheVariants.{Search, Await}
use Rattle.serve_desks.specs.Lines.{AsksWithin, IsOfDesks}
use Rattle.serve_desks.proofs.EachLemmas.{each_at}

is_of_desks : (desks later asks : ℕ) (line : ScriptLine) → IsWithin (counts desks later asks) line → IsOfDesks desks later line
is_of_desks desks later asks (Search desk request) h = h.0
is_of_desks desks later asks (Await desk count) h = (h.0.0, h.0.1, h.1.1)

asks_within : (desks later asks : ℕ) (line : ScriptLine) → IsWithin (counts desks later asks) line → AsksWithin asks line
asks_within desks later asks (Search desk request) h = h.1
asks_within desks later asks (Await desk count) h = tt

pub all_of_desks : (desks later asks : ℕ) (lines : List ScriptLine) → Each (IsWithin (counts desks later asks)) lines → All (IsOfDesks desks later) lines
all_of_desks desks later asks lines h i d less = is_of_desks desks later asks (slice_index_or lines i d) (each_at (IsWithin (counts desks later asks)) lines i d less h)

pub all_ask : (desks later asks : ℕ) (lines : List ScriptLine) → Each (IsWithin (counts desks later asks)) lines → All (AsksWithin asks) lines
all_ask desks later asks lines h i d less = asks_within desks later asks (slice_index_or lines i d) (each_at (IsWithin (counts desks later asks)) lines i d less h)
