-- Which replies a script may have.
use Rattle.std.specs.Prelude.{◌≡◌, ℕ, ◌+◌, ◌-◌, ◌≤◌, max, List, [], ◌∷◌, ◌++◌, length, map, replicate, take, slice_index, slice_set}
use Rattle.std.specs.Arc.{arc_value}
use Rattle.fare_law.specs.Book.{Book}
use Rattle.fare_law.specs.declared.filings.Filing.{Filing}
use Rattle.script_text.specs.declared.lines.ScriptLine.{ScriptLine}
use Rattle.script_text.specs.declared.lines.ScriptLine.TheVariants.{Search, Await}
use Rattle.serve_desks.specs.Judging.{Judged, accepted}
use Rattle.serve_desks.specs.Terms.{IsRight, Rightness, Terms, terms_of}
use Rattle.serve_desks.specs.declared.log.Filed.{Filed}
use Rattle.serve_desks.specs.declared.log.Log.{Log}
use Rattle.serve_desks.specs.declared.log.Reply.{Reply}
use Rattle.serve_desks.specs.declared.workload.Workload.{Workload}

-- the least version that the desk's next reply may have
abbrev pub floor_of : List ℕ → ℕ → ℕ
floor_of floors desk = slice_index floors (desk - 1)

abbrev pub with_floor : List ℕ → ℕ → ℕ → List ℕ
with_floor floors desk floor = slice_set floors (desk - 1) floor

-- the filings that were there at first, and those of the first `count` later ones that were accepted
abbrev pub waited_for : ℕ → List Filed → ℕ → ℕ
waited_for opening filed count = opening + accepted (take count filed)

-- the reply names a version no older than its floor, and is right for it
pub record Answers (right : Rightness) (terms : Terms) (filings : List Filing) (request floor : ℕ) (r : Reply) : Type 0 where
  pub new_enough : floor ≤ r.number
  pub known : r.number ≤ length filings
  pub body : IsRight right terms request (take r.number filings) r.body

module _ (right : Rightness) (terms : Terms) (opening : ℕ) (filed : List Filed) (filings : List Filing) where
  -- One reply for each search, in order. A reply is its desk's next floor; what a desk waited for raises its floor.
  abbrev pub Replies : List ℕ → List ScriptLine → List Reply → Type 0
  Replies floors [] [] = Unit {0}
  Replies floors [] (r ∷ rs) = ⊥
  Replies floors (Search desk request ∷ lines) [] = ⊥
  Replies floors (Search desk request ∷ lines) (r ∷ rs) = Answers right terms filings request (floor_of floors desk) r × Replies (with_floor floors desk r.number) lines rs
  Replies floors (Await desk count ∷ lines) rs = Replies (with_floor floors desk (max (floor_of floors desk) (waited_for opening filed count))) lines rs

  -- One line was taken: whatever replies the lines behind it have over the new floors, these and the line's own are
  -- those of it and these lines over the old floors.
  pub record Takes (line : ScriptLine) (floors floors' : List ℕ) (replies replies' : List Reply) : Type 0 where
    pub more : List Reply
    pub added : replies' ≡ replies ++ more
    pub each : (lines : List ScriptLine) (rest : List Reply) → Replies floors' lines rest → Replies floors (line ∷ lines) (more ++ rest)

-- no floor is above this
abbrev pub AreLow : ℕ → List ℕ → Type 0
AreLow most floors = (at : ℕ) → slice_index floors at ≤ most

-- The log of a run: there is a history, of which each later filing was judged from the opening book on, and over which
-- these are the replies to the script; at first no desk's floor is below the opening version.
pub record Logged (right : Rightness) (start : Book) (work : Workload) (log : Log) : Type 0 where
  pub filings : List Filing
  pub judged : Judged start.timetable start.entries (map arc_value work.later) log.filed filings
  pub replied : Replies right (terms_of work.asks start) (length start.entries) log.filed filings (replicate work.script.desks (length start.entries)) work.script.lines log.replies
