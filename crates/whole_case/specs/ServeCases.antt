-- The case of a serving run that bytes spell, or the first refusal, stage by stage: the form of the lines, the places and flights, the
-- seats, the filings, the later filings, which are only read, the requests, and last the script.
use Rattle.std.specs.Prelude.{◌≡◌, ◌≤◌, ℕ, List, [], ◌∷◌, length, Option, None, Ok, Err}
use Rattle.case_text.specs.declared.kinds.CaseKind.TheVariants.{Serve}
use Rattle.case_text.specs.declared.limits.TheConstants.{MOST_FILINGS, MOST_REQUESTS}
use Rattle.fare_law.specs.Book.{Book}
use Rattle.fare_law.specs.declared.requests.Request.{Request}
use Rattle.fare_law.specs.declared.rows.TextLine.{TextLine}
use Rattle.script_text.specs.Script.{FaultAt, SpellsScript}
use Rattle.script_text.specs.declared.lines.Script.{Script as Lines}
use Rattle.whole_case.specs.declared.books.FiledCase.{FiledCase}
use Rattle.whole_case.specs.declared.refusals.Reason.TheVariants.{Script}
use Rattle.whole_case.specs.declared.serve.Asks.{Asks}
use Rattle.whole_case.specs.declared.serve.ServeCase.{ServeCase}
use Rattle.whole_case.specs.Filings.{filed_version, filing_in}
use Rattle.whole_case.specs.Refusals.{refused_at}
use Rattle.whole_case.specs.Requests.{request_in, with_best}
use Rattle.whole_case.specs.Stages.{Stage, done, ◌>>=◌}
use Rattle.whole_case.specs.Timetables.{opening_of, sections_in}

-- what a stage gives of each of these, one after another
abbrev pub each_of : {X A : Type 0} → (X → Stage A) → List X → Stage (List A)
each_of stage [] = done []
each_of stage (x ∷ xs) = do
  first ← stage x
  others ← each_of stage xs
  done (first ∷ others)

-- the request of a line, with the number of tickets that is asked for
abbrev pub asked_in : Option ℕ → Book → TextLine → Stage Request
asked_in best b line = do
  request ← request_in b line
  done (with_best best request)

-- the script of these lines, over so many later filings and requests, within the limits of a case, or the first line at fault
abbrev pub script_in : ℕ → ℕ → List TextLine → Stage Lines
script_in later requests lines (Ok script) = (later ≤ MOST_FILINGS) × (requests ≤ MOST_REQUESTS) × SpellsScript later requests lines script
script_in later requests lines (Err refusal) = (line : ℕ) × FaultAt later requests lines line × (refusal ≡ refused_at line Script)

-- what the lines after the filings of a serving run's case give
abbrev pub asks_in : Option ℕ → FiledCase → Stage Asks
asks_in best filed = do
  later ← each_of filing_in filed.later
  requests ← each_of (asked_in best filed.book) filed.requests
  script ← script_in (length later) (length requests) filed.script
  done (record { later = later; requests = requests; script = script })

-- the case of a serving run, with the number of tickets that is asked for in each request
abbrev pub serve_case : Option ℕ → List ℕ → Stage ServeCase
serve_case best bytes = do
  case ← sections_in Serve bytes
  opening ← opening_of case.places case.flights case.seats
  book ← filed_version opening case.filings None
  later ← each_of filing_in case.later
  requests ← each_of (asked_in best book) case.requests
  script ← script_in (length later) (length requests) case.script
  done (record { book = book; later = later; requests = requests; script = script })
