-- Lines that one reader of rows reads in turn.
use Rattle.std.specs.Prelude.{◌≡◌, ◌<◌, ◌==◌, ◌&&◌, not, ℕ, Bool, true, List, [], ◌∷◌, ◌++◌, length, Option, Some, if◌then◌else◌}
use Rattle.csv.specs.Reading.{Ready, default_config, reader_config, reader_state, reader_trim, source_of}
use Rattle.csv.specs.declared.parser.State.TheVariants as st
use Rattle.csv.specs.declared.reader.Reader.{Reader}
use Rattle.csv.specs.declared.reader.Trim.TheVariants as trim
use Rattle.fare_law.specs.declared.rows.TextLine.{TextLine}
use Rattle.case_text.specs.Cut.{cut, IsPlainLine, plain_line}

-- these are the fields of a line, which is plain
pub record HasFields (fields : List (List ℕ)) (line : List ℕ) : Type 0 where
  pub plain : plain_line line ≡ true
  pub cuts : fields ≡ cut line

-- a line that a reader of rows takes for one row
abbrev pub is_row : List ℕ → Bool
is_row line = not (length line == 0) && plain_line line

-- the text of the lines before the first that is no row
abbrev pub row_text : List TextLine → List ℕ
row_text [] = []
row_text (l ∷ ls) = if is_row l.bytes then l.bytes ++ (10 ∷ row_text ls) else []

-- what a reader of rows takes for one row: a plain line that isn't empty
pub record IsRow (line : List ℕ) : Type 0 where
  pub plain : IsPlainLine line
  pub some : 0 < length line
  pub test : is_row line ≡ true

-- a reader without trimming and headers that has this text before it
pub record Awaits {R : Type 0} (rem : R → Option (List ℕ)) (reader : Reader R) (text : List ℕ) : Type 0 where
  pub config : reader_config reader ≡ default_config
  pub trim : reader_trim reader ≡ trim.None
  pub ready : Ready reader
  pub state : reader_state reader ≡ st.StartRecord
  pub source : source_of rem reader ≡ Some text

-- a reader that is in step with the lines has their text before it
abbrev pub Follows : {R : Type 0} → (R → Option (List ℕ)) → Bool → Reader R → List TextLine → Type 0
Follows rem in_step reader lines = in_step ≡ true → Awaits rem reader (row_text lines)
