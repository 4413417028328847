-- What the answers record, told of the list of events alone. The latest event stands first.
use Rattle.std.specs.Prelude.{◌≡◌, ◌↔◌, ◌⊎◌, ℕ, ◌+◌, ◌==◌, ◌≤◌, List, [], ◌∷◌, ◌++◌, length, cond, Option, Some, None}
use Rattle.std.specs.Arc.{arc_value}
use Rattle.fare_component.specs.Keys.{Asked, asked}
use Rattle.fare_law.specs.declared.filings.Filing.{Filing}
use Rattle.fare_law.specs.declared.requests.Request.{Request}
use Rattle.fare_law.specs.Book.{Book}
use Rattle.fare_law.specs.Lists.{AllDifferent, Each, IsIn, Matched}
use Rattle.run_core.specs.declared.events.Event.{Event}
use Rattle.run_core.specs.declared.events.Event.TheVariants.{File, Look, Fetch, Keep, Answer}
use Rattle.run_core.specs.declared.events.Recorded.{Recorded}
use Rattle.run_core.specs.Outcomes.{IsOutcome}
use Rattle.run_core.specs.Records.{tickets_of}

-- the filings, the first one first
abbrev pub filings : List Event → List Filing
filings [] = []
filings (File filing ∷ past) = filings past ++ arc_value filing ∷ []
filings (Look desk ∷ past) = filings past
filings (Fetch desk key ∷ past) = filings past
filings (Keep desk key ∷ past) = filings past
filings (Answer desk q budget ∷ past) = filings past

-- the filings before the last look of a desk, if it has looked since its last answer
abbrev pub filed_at_look : ℕ → List Event → Option (List Filing)
filed_at_look d [] = None
filed_at_look d (File filing ∷ past) = filed_at_look d past
filed_at_look d (Look desk ∷ past) = cond (d == desk) (Some (filings past)) (filed_at_look d past)
filed_at_look d (Fetch desk key ∷ past) = filed_at_look d past
filed_at_look d (Keep desk key ∷ past) = filed_at_look d past
filed_at_look d (Answer desk q budget ∷ past) = cond (d == desk) None (filed_at_look d past)

-- what an Answer event asks, and the filings before the last look of its desk
pub record Asking : Type 0 where
  pub desk : ℕ
  pub request : Request
  pub budget : ℕ
  pub filed : Option (List Filing)

-- the Answer events, the first one first
abbrev pub askings : List Event → List Asking
askings [] = []
askings (File filing ∷ past) = askings past
askings (Look desk ∷ past) = askings past
askings (Fetch desk key ∷ past) = askings past
askings (Keep desk key ∷ past) = askings past
askings (Answer desk q budget ∷ past) = askings past ++ record { desk = desk; request = q; budget = budget; filed = filed_at_look desk past } ∷ []

-- the version of an opening book and so many filings
abbrev pub book_after : Book → List Filing → Book
book_after b filed = record b { entries = b.entries ++ filed }

-- The record of an answer: its version counts the opening entries and the filings before its desk's last look, and its outcome is that version's.
pub record IsRecordOf (opening : Book) (a : Asking) (r : Recorded) : Type 0 where
  pub filed : List Filing
  pub looked : a.filed ≡ Some filed
  pub desk : r.desk ≡ a.desk
  pub request : r.request ≡ a.request
  pub version : r.version ≡ length opening.entries + length filed
  pub outcome : IsOutcome (book_after opening filed) a.request a.budget (tickets_of r.outcome)

-- the answers are the records of the Answer events, in order
abbrev pub AreRecorded : Book → List Event → List Recorded → Type 0
AreRecorded opening past answers = Matched (IsRecordOf opening) (askings past) answers

-- the later answer is of another desk, or its version is no lower
abbrev pub IsNoLower : Recorded → Recorded → Type 0
IsNoLower one later = one.desk ≡ later.desk → one.version ≤ later.version

-- of two answers of one desk the later one has no lower version
abbrev pub NeverFall : List Recorded → Type 0
NeverFall [] = Unit {0}
NeverFall (one ∷ later) = Each (IsNoLower one) later × NeverFall later

-- some Keep event has a key that asks for this
abbrev pub WasKept : List Event → Asked → Type 0
WasKept [] a = ⊥
WasKept (File filing ∷ past) a = WasKept past a
WasKept (Look desk ∷ past) a = WasKept past a
WasKept (Fetch desk key ∷ past) a = WasKept past a
WasKept (Keep desk key ∷ past) a = (a ≡ asked key) ⊎ WasKept past a
WasKept (Answer desk q budget ∷ past) a = WasKept past a

-- what is kept is what Keep events ask for, each once
pub record IsKeptOnce (past : List Event) (kept : List Asked) : Type 0 where
  pub once : AllDifferent kept
  pub exact : (a : Asked) → IsIn a kept ↔ WasKept past a
