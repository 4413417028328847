-- The text of the replies to a script.
use Rattle.std.specs.Prelude.{◌≡◌, ℕ, ◌+◌, ◌-◌, List, [], ◌∷◌, ◌++◌, take, slice_get, Some}
use Rattle.search_desk.specs.Outcomes.{version_of}
use Rattle.fare_law.specs.declared.filings.Filing.{Filing}
use Rattle.script_text.specs.declared.lines.ScriptLine.{ScriptLine}
use Rattle.script_text.specs.declared.lines.ScriptLine.TheVariants.{Search, Await}
use Rattle.serve_desks.specs.Terms.{Terms}
use Rattle.serve_desks.specs.declared.log.Reply.{Reply}
use Rattle.serve_desks.specs.declared.workload.Ask.{Ask}
use Rattle.serving.specs.Bodies.{BodyText}
use Rattle.serving.specs.Lines.{reply_line}
use Rattle.serving.specs.declared.searches.SearchLine.{SearchLine}

-- the search of a line with this number, if it is one
abbrev pub search_of : ℕ → ScriptLine → List SearchLine
search_of line (Search desk request) = record { line = line; desk = desk; request = request } ∷ []
search_of line (Await desk count) = []

-- the searches of these lines, of which the first has this number
abbrev pub searches_from : ℕ → List ScriptLine → List SearchLine
searches_from line [] = []
searches_from line (said ∷ lines) = search_of line said ++ searches_from (line + 1) lines

-- The text of a reply over these filings: its line, with the version, and what came of the search of that version.
pub record ReplyText (terms : Terms) (filings : List Filing) (s : SearchLine) (r : Reply) (text : List ℕ) : Type 0 where
  pub ask : Ask
  pub asked : slice_get terms.asks (s.request - 1) ≡ Some ask
  pub body : List ℕ
  pub tells : BodyText (version_of terms.timetable (take r.number filings)) ask.request r.body body
  pub whole : text ≡ reply_line s.line s.desk r.number ++ body

-- the text is that of the replies to these searches, one each, in order
abbrev pub RepliesText : Terms → List Filing → List SearchLine → List Reply → List ℕ → Type 0
RepliesText terms filings [] [] text = text ≡ []
RepliesText terms filings [] (r ∷ rs) text = ⊥
RepliesText terms filings (s ∷ ss) [] text = ⊥
RepliesText terms filings (s ∷ ss) (r ∷ rs) text = (first : List ℕ) × (rest : List ℕ) × ReplyText terms filings s r first × RepliesText terms filings ss rs rest × (text ≡ first ++ rest)
