-- Tables of a position: entries that are the position's, and what of its components they have.
use Rattle.std.specs.Prelude.{◌≡◌, ◌≤◌, ◌<◌, ℕ, List, ◌++◌, length}
use Rattle.fare_law.specs.declared.requests.Request.{Request}
use Rattle.fare_law.specs.Book.{Book}
use Rattle.fare_law.specs.Lists.{Each, IsIn}
use Rattle.flight_paths.specs.declared.positions.Position.{Position}
use Rattle.outline_tables.specs.declared.outline_numbers.Priced.{Priced}
use Rattle.outline_tables.specs.declared.outline_numbers.RuledOutline.{RuledOutline}
use Rattle.outline_tables.specs.Numbers.{entries_of}
use Rattle.outlines.specs.declared.outline.Entry.{Entry}
use Rattle.outlines.specs.declared.outline.Outline.{Outline}
use Rattle.outlines.specs.Outcomes.{EntryWithin, HasRule, Tabled}
use Rattle.outlines.specs.Outlines.{Outlined}

-- the outline stands there at this price or less
pub record HasBelow (entries : List Entry) (o : Outline) (price : ℕ) : Type 0 where
  pub entry : Entry
  pub within : IsIn entry entries
  pub outline : entry.outline ≡ o
  pub below : entry.price ≤ price

-- an entry of the position: some component has its outline and price, and its rule is the live one
pub record IsEntry (b : Book) (q : Request) (at : Position) (e : Entry) : Type 0 where
  pub outlined : Outlined b q at e.outline e.price
  pub rule : HasRule b e
  pub within : EntryWithin e

-- Of the position's components, those of such outlines on such flights are not missed: the outline of each stands there at no more than its price.
abbrev pub CoversThose : Book → Request → Position → (Outline → List ℕ → Type 0) → List Entry → Type 0
CoversThose b q at these entries = (o : Outline) (price : ℕ) (h : Outlined b q at o price) → these o h.numbers → HasBelow entries o price

-- the entries of a table by numbers are the position's, and it misses no such component
pub record HasThose (b : Book) (q : Request) (at : Position) (these : Outline → List ℕ → Type 0) (known : List RuledOutline) (table : List Priced) : Type 0 where
  pub numbers : Each (λ (p : Priced). p.outline < length known) table
  pub right : Each (IsEntry b q at) (entries_of known table)
  pub covers : CoversThose b q at these (entries_of known table)

-- The table of a position, with live rules.
pub record IsTable (b : Book) (q : Request) (at : Position) (table : List Entry) : Type 0 where
  pub tabled : Tabled b q at table
  pub rules : Each (HasRule b) table
  pub within : Each EntryWithin table

-- A table by numbers is that of a position.
pub record IsPricedTable (b : Book) (q : Request) (at : Position) (known : List RuledOutline) (table : List Priced) : Type 0 where
  pub numbers : Each (λ (p : Priced). p.outline < length known) table
  pub is : IsTable b q at (entries_of known table)

-- to a table were added entries of the position that miss no such component
pub record AddsThose (b : Book) (q : Request) (at : Position) (these : Outline → List ℕ → Type 0) (known : List RuledOutline) (old new : List Priced) : Type 0 where
  pub more : List Priced
  pub joined : new ≡ old ++ more
  pub has : HasThose b q at these known more
