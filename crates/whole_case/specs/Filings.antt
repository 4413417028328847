-- The filings of a case: each is read and then taken by the book that those before it leave.
use Rattle.std.specs.Prelude.{◌≡◌, ℕ, nat_le, List, [], ◌∷◌, ◌++◌, length, take, min, Option, Some, None, Ok, Err, if◌then◌else◌}
use Rattle.fare_law.specs.declared.filings.BookWhy.{BookWhy}
use Rattle.fare_law.specs.declared.filings.Filing.{Filing}
use Rattle.fare_law.specs.declared.rows.TextLine.{TextLine}
use Rattle.fare_law.specs.Book.{Book}
use Rattle.fare_law.specs.Faults.{Fault}
use Rattle.fare_filing.specs.Reading.{filing_of}
use Rattle.whole_case.specs.declared.refusals.Reason.TheVariants.{ActionRefused, NoVersion}
use Rattle.whole_case.specs.Refusals.{at_line, filing_reason, refused_at}
use Rattle.whole_case.specs.Stages.{Stage, done, told, ◌>>=◌}

-- the filing of a line
abbrev pub filing_in : TextLine → Stage Filing
filing_in line = told (filing_of line.bytes) (λ fault. at_line line.line (filing_reason fault))

-- a book with one filing more
abbrev pub with_filing : Book → Filing → Book
with_filing b filing = record { timetable = b.timetable; entries = b.entries ++ filing ∷ [] }

-- the book that takes the filing of this line, or the filing's fault
abbrev pub taken : Book → ℕ → Filing → Stage Book
taken b line filing (Ok next) = ((at : ℕ) (why : BookWhy) → Fault b filing at why → ⊥) × (next ≡ with_filing b filing)
taken b line filing (Err refusal) = (at : ℕ) × (why : BookWhy) × Fault b filing at why × (refusal ≡ refused_at line (ActionRefused at why))

-- the book that the filing of this line leaves
abbrev pub next : Book → TextLine → Stage Book
next b line = do
  filing ← filing_in line
  taken b line.line filing

-- the book that the filings of these lines leave, each after those before it
abbrev pub filed : Book → List TextLine → Stage Book
filed b [] = done b
filed b (line ∷ lines) = do
  more ← next b line
  filed more lines

-- a book takes the filings of these lines
abbrev pub are_taken : Book → List TextLine → Stage (Unit {0})
are_taken b lines = do
  _ ← filed b lines
  done tt

-- the version that has the first n filings of a book
abbrev pub version : ℕ → Book → Book
version n b = record { timetable = b.timetable; entries = take n b.entries }

-- how many filings the version has that is asked for: all where none is asked for, or where there are fewer
abbrev pub kept : Option ℕ → ℕ → ℕ
kept None count = count
kept (Some n) count = min count n

-- there is a version of the number that is asked for
abbrev pub has_version : Option ℕ → ℕ → Stage (Unit {0})
has_version None count outcome = outcome ≡ Ok tt
has_version (Some n) count outcome = outcome ≡ (if nat_le n count then Ok tt else Err (refused_at 0 NoVersion))

-- the version that is asked for, or the last one, of a book that takes the filings of all lines
abbrev pub filed_version : Book → List TextLine → Option ℕ → Stage Book
filed_version opening lines at = do
  last ← filed opening lines
  done (version (kept at (length lines)) last)
