-- The lines of a text, numbered from 1, without the empty ones.
use Rattle.std.specs.Prelude.{◌+◌, ◌==◌, ℕ, cond, List, [], ◌∷◌, length}
use Rattle.std.specs.Str.Lines.{lines}
use Rattle.fare_law.specs.declared.rows.TextLine.{TextLine}
use Rattle.case_text.specs.declared.lines.Line.{Line}

-- the lines from this number on, of which empty ones are skipped
abbrev pub numbered : ℕ → List (List ℕ) → List TextLine
numbered n [] = []
numbered n (x ∷ xs) = cond (length x == 0) (numbered (n + 1) xs) (record { line = n; bytes = x } ∷ numbered (n + 1) xs)

-- A line ends with LF, and one CR directly before it is dropped; what stands after the last LF is a line too.
abbrev pub text_lines : List ℕ → List TextLine
text_lines bytes = numbered 1 (lines bytes)

-- what a borrowed line shows
abbrev pub shown : Line → TextLine
shown l = record { line = l.line; bytes = l.bytes.now }
