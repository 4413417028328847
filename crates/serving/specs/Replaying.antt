-- The history once more, version by version, and the texts of what came of each search.
use Rattle.std.specs.Prelude.{◌≡◌, ℕ, ◌<◌, ◌≤◌, List, [], ◌∷◌, ◌++◌, length, slice_index_or, take}
use Rattle.search_desk.specs.Outcomes.{version_of}
use Rattle.fare_law.specs.Book.{Book, Timetable}
use Rattle.fare_law.specs.declared.filings.Filing.{Filing}
use Rattle.fare_law.specs.declared.requests.Request.{Request}
use Rattle.fare_versions.specs.Filings.{IsFaultless, book_with}
use Rattle.serve_desks.specs.declared.log.Body.{Body}
use Rattle.serve_desks.specs.declared.log.Filed.{Filed}
use Rattle.serve_desks.specs.declared.log.Filed.TheVariants.{Accepted, Refused}
use Rattle.serve_desks.specs.declared.log.Reply.{Reply}
use Rattle.serving.specs.Bodies.{BodyText, IsRightBody}
use Rattle.serving.specs.Lines.{reply_line}
use Rattle.serving.specs.declared.searches.SearchLine.{SearchLine}

-- these entries and the later filings that were accepted
abbrev pub history_after : List Filing → List Filing → List Filed → List Filing
history_after start [] filed = start
history_after start (f ∷ later) [] = start
history_after start (f ∷ later) (Accepted n ∷ filed) = history_after (start ++ f ∷ []) later filed
history_after start (f ∷ later) (Refused why ∷ filed) = history_after start later filed

-- the text is that of what came of a search of this version, whatever the request is that it is right for
pub record HasText (b : Book) (body : Body) (text : List ℕ) : Type 0 where
  pub each : (q : Request) → IsRightBody b q body → BodyText b q body text

-- each reply that names this version has its text
pub record HasTexts (b : Book) (replies : List Reply) (texts : List (List ℕ)) : Type 0 where
  pub each : (i : ℕ) (d : Reply) → i < length replies → (slice_index_or replies i d).number ≡ length b.entries → HasText b (slice_index_or replies i d).body (slice_index_or texts i [])

-- the texts of replies that name other versions than this number are as they were
pub record KeepsOthers (number : ℕ) (replies : List Reply) (old new : List (List ℕ)) : Type 0 where
  pub each : (i : ℕ) (d : Reply) → i < length replies → ((slice_index_or replies i d).number ≡ number → ⊥) → slice_index_or new i [] ≡ slice_index_or old i []

-- each reply that names a version of this history, from the one number to below the other, has its text
pub record HasTextsBetween (timetable : Timetable) (filings : List Filing) (from below : ℕ) (replies : List Reply) (texts : List (List ℕ)) : Type 0 where
  pub each : (i : ℕ) (d : Reply) → i < length replies → from ≤ (slice_index_or replies i d).number → (slice_index_or replies i d).number < below
      → HasText (version_of timetable (take (slice_index_or replies i d).number filings)) (slice_index_or replies i d).body (slice_index_or texts i [])

-- a filing that is told as accepted has no fault in this book
abbrev pub IsJudged : Book → Filing → Filed → Type 0
IsJudged b f (Accepted n) = IsFaultless b f
IsJudged b f (Refused why) = Unit {0}

-- after a filing that was judged so: the book, and the texts of the replies
abbrev pub IsNext : Book → Filing → Filed → List Reply → (old new : List (List ℕ)) → Book → Type 0
IsNext b f (Accepted n) replies old new b' = (b' ≡ book_with b f) × HasTexts b' replies new × KeepsOthers (length b'.entries) replies old new
IsNext b f (Refused why) replies old new b' = (b' ≡ b) × (new ≡ old)

-- the lines of the replies to these searches, each with its text
abbrev pub replies_text : List SearchLine → List Reply → List (List ℕ) → List ℕ
replies_text [] replies texts = []
replies_text (s ∷ searches) [] texts = []
replies_text (s ∷ searches) (r ∷ replies) [] = []
replies_text (s ∷ searches) (r ∷ replies) (t ∷ texts) = reply_line s.line s.desk r.number ++ (t ++ replies_text searches replies texts)
