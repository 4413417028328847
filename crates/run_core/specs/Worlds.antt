-- What a world is to a contract, and what an event makes of it. A world is what its events leave, one after another.
use Rattle.std.specs.Prelude.{◌≡◌, ◌⊎◌, ℕ, ◌<◌, List, [], ◌∷◌, ◌++◌, length, replicate, slice_index_or, slice_set, Option, Some, None}
use Rattle.std.specs.Arc.{arc_value}
use Rattle.fare_component.specs.Keys.{Asked, IsKey, asked}
use Rattle.fare_law.specs.declared.filings.Filing.{Filing}
use Rattle.fare_law.specs.declared.requests.Request.{Request}
use Rattle.fare_law.specs.Book.{Book}
use Rattle.fare_law.specs.FilingLimits.{IsFiling}
use Rattle.fare_law.specs.Lists.{IsIn}
use Rattle.fare_law.specs.Requests.{judged, known_places}
use Rattle.fare_versions.specs.Filings.{IsFaultless, book_with}
use Rattle.run_core.specs.declared.events.Event.{Event}
use Rattle.run_core.specs.declared.events.Event.TheVariants.{File, Look, Fetch, Keep, Answer}
use Rattle.run_core.specs.declared.events.Recorded.{Recorded}
use Rattle.run_core.specs.Records.{Records}

-- The last version, what each desk looked at since its last answer, what is asked by the keys whose offers are kept, and the answers.
pub record WorldView : Type 0 where
  pub book : Book
  pub desks : List (Option Book)
  pub kept : List Asked
  pub answers : List Recorded

-- a world of so many desks before any event
abbrev pub opened : Book → ℕ → WorldView
opened b count = record { book = b; desks = replicate count None; kept = []; answers = [] }

-- the version that the desk looked at since its last answer
abbrev pub sight : WorldView → ℕ → Option Book
sight w desk = slice_index_or w.desks desk None

-- the desk is one of the world's and looked at this version since its last answer
pub record Sees (w : WorldView) (desk : ℕ) (b : Book) : Type 0 where
  pub within : desk < length w.desks
  pub sees : sight w desk ≡ Some b

-- the list with this, where it was not there
abbrev pub Adds : {X : Type 0} → List X → X → List X → Type 0
Adds xs x ys = (IsIn x xs × (ys ≡ xs)) ⊎ ((IsIn x xs → ⊥) × (ys ≡ xs ++ x ∷ []))

-- the filing, which has no fault, is the last entry
pub record Files (w : WorldView) (filing : Filing) (v : WorldView) : Type 0 where
  pub right : IsFaultless w.book filing
  pub next : v ≡ record w { book = book_with w.book filing }

-- the desk has looked at the last version
pub record Looks (w : WorldView) (desk : ℕ) (v : WorldView) : Type 0 where
  pub within : desk < length w.desks
  pub next : v ≡ record w { desks = slice_set w.desks desk (Some w.book) }

-- a desk that has looked reads, and nothing changes
pub record Fetches (w : WorldView) (desk : ℕ) (v : WorldView) : Type 0 where
  pub version : Book
  pub seen : Sees w desk version
  pub next : v ≡ w

-- a desk that has looked keeps what is asked, where it isn't kept
pub record KeepsOffers (w : WorldView) (desk : ℕ) (a : Asked) (v : WorldView) : Type 0 where
  pub version : Book
  pub seen : Sees w desk version
  pub kept : List Asked
  pub added : Adds w.kept a kept
  pub next : v ≡ record w { kept = kept }

-- a desk that has looked answers from the version that it looked at, and has then looked at nothing
pub record AnswersFrom (w : WorldView) (desk : ℕ) (q : Request) (budget : ℕ) (v : WorldView) : Type 0 where
  pub version : Book
  pub seen : Sees w desk version
  pub right : judged (known_places version) q ≡ None
  pub answer : Recorded
  pub records : Records version desk q budget answer
  pub next : v ≡ record w { desks = slice_set w.desks desk None; answers = w.answers ++ answer ∷ [] }

-- what an event makes of a world
abbrev pub StepsTo : WorldView → Event → WorldView → Type 0
StepsTo w (File filing) v = Files w (arc_value filing) v
StepsTo w (Look desk) v = Looks w desk v
StepsTo w (Fetch desk key) v = Fetches w desk v
StepsTo w (Keep desk key) v = KeepsOffers w desk (asked key) v
StepsTo w (Answer desk q budget) v = AnswersFrom w desk q budget v

-- The world that events leave of a world. The latest event stands first.
abbrev pub ComesOf : WorldView → List Event → WorldView → Type 0
ComesOf start [] w = w ≡ start
ComesOf start (event ∷ past) w = (before : WorldView) × ComesOf start past before × StepsTo before event w

-- a filing and a key within their limits; of a request nothing is asked, as it is judged
abbrev pub IsEvent : Event → Type 0
IsEvent (File filing) = IsFiling (arc_value filing)
IsEvent (Look desk) = Unit {0}
IsEvent (Fetch desk key) = IsKey key
IsEvent (Keep desk key) = IsKey key
IsEvent (Answer desk q budget) = Unit {0}
