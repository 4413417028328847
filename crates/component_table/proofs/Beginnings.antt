-- What begins with a flight, of a position and of the one that takes this flight alone.
use Rattle.std.proofs.Common.{◌≡◌, ◌↔◌, ℕ, suc, ◌≤◌, ◌<◌, List, ◌∷◌, get_or, length, Option, refl, sym, ap, subst, ◌∙◌, arith}
use Rattle.component_table.specs.Steps.{BeginsBy}
use Rattle.fare_law.specs.declared.flights.Flight.{Flight}
use Rattle.fare_law.specs.declared.names.Place.{Place}
use Rattle.fare_law.specs.declared.requests.Request.{Request}
use Rattle.fare_law.specs.Book.{Book}
use Rattle.flight_paths.specs.declared.positions.Position.{Position}
use Rattle.flight_paths.specs.Heads.{IsHead}
use Rattle.flight_paths.specs.Positions.{IsPath}
use Rattle.component_table.specs.Begun.{HeadPaths}
use Rattle.component_table.specs.Tables.{HasThose, IsEntry, IsPricedTable}
use Rattle.component_table.proofs.BeginFacts.{outlined_there}
use Rattle.law_lemmas.proofs.EachOne.{each_by, each_from, each_in}
use Rattle.law_lemmas.proofs.Members.{in_list}
use Rattle.outline_tables.specs.declared.outline_numbers.Priced.{Priced}
use Rattle.outline_tables.specs.declared.outline_numbers.RuledOutline.{RuledOutline}
use Rattle.outline_tables.specs.Numbers.{entries_of}
use Rattle.outlines.specs.declared.outline.Entry.{Entry}
use Rattle.outlines.specs.declared.outline.Outline.{Outline}
use Rattle.outlines.specs.Outcomes.{EntryWithin, HasRule}
use Rattle.outlines.specs.Outlines.{Outlined}
use Rattle.fare_ends.specs.Begins.{narrowed}
use Rattle.fare_ends.proofs.FirstFlights.{begins_narrowed, begins_with}
use Rattle.schedule_book.specs.Departures.{AreDepartures, DepartsFrom}

-- the paths of a position begin with the only flight that it takes
pub begins_by : (b : Book) (q : Request) (there : Position) (n : ℕ) → there.lo ≡ n → there.hi ≡ suc n → (ns : List ℕ) (fs : List Flight) (next : Option Position) → IsPath b q.slices there ns fs next → BeginsBy n ns
begins_by b q there n low high ns fs next h =
    let w = begins_with b q.slices there ns fs next h in
    record { rest = w.rest; is = w.numbers ∙ ap (λ m. m ∷ w.rest) (one w.number w.takes.low w.takes.high) }
  where
    one : (m : ℕ) → there.lo ≤ m → m < there.hi → m ≡ n
    one m l h = omega (arith, low, high, l, h)

-- a position that has the same paths with a flight as the one that takes it alone
module _ (b : Book) (q : Request) (at there : Position) (n : ℕ) (low : there.lo ≡ n) (high : there.hi ≡ suc n)
    (same : (ns : List ℕ) (fs : List Flight) (next : Option Position) → IsPath b q.slices at (n ∷ ns) fs next ↔ IsPath b q.slices there (n ∷ ns) fs next) where
  pub path_here : (ns : List ℕ) (fs : List Flight) (next : Option Position) → IsPath b q.slices there ns fs next → IsPath b q.slices at ns fs next
  path_here ns fs next h =
      let w = begins_by b q there n low high ns fs next h in
      subst (λ ms. IsPath b q.slices at ms fs next) (sym w.is) ((same w.rest fs next).1 (subst (λ ms. IsPath b q.slices there ms fs next) w.is h))

  pub path_there : (ns : List ℕ) (fs : List Flight) (next : Option Position) → BeginsBy n ns → IsPath b q.slices at ns fs next → IsPath b q.slices there ns fs next
  path_there ns fs next w h = subst (λ ms. IsPath b q.slices there ms fs next) (sym w.is) ((same w.rest fs next).0 (subst (λ ms. IsPath b q.slices at ms fs next) w.is h))

  entry_here : (e : Entry) → IsEntry b q there e → IsEntry b q at e
  entry_here e i = record {
    outlined = outlined_there b q there e.outline e.price at i.outlined (path_here i.outlined.numbers i.outlined.flights e.outline.after i.outlined.path);
    rule = i.rule;
    within = i.within;
  }

  -- a table of such of its components has them of the position
  pub has_here : (these : Outline → List ℕ → Type 0) (known : List RuledOutline) (table : List Priced) → ((o : Outline) (ns : List ℕ) → these o ns → BeginsBy n ns) → HasThose b q there these known table → HasThose b q at these known table
  has_here these known table begin h = record {
    numbers = h.numbers;
    right = each_by (IsEntry b q there) (IsEntry b q at) (entries_of known table) entry_here h.right;
    covers = λ o price c w. h.covers o price (record { numbers = c.numbers; flights = c.flights; piece = c.piece; path = path_there c.numbers c.flights o.after (begin o c.numbers w) c.path; stands = c.stands; lawful = c.lawful; costs = c.costs; outline = c.outline }) w;
  }

-- the table of a position has all its components
pub has_of_table : (b : Book) (q : Request) (at : Position) (these : Outline → List ℕ → Type 0) (known : List RuledOutline) (table : List Priced) → IsPricedTable b q at known table → HasThose b q at these known table
has_of_table b q at these known table h = record {
  numbers = h.numbers;
  right = each_from (IsEntry b q at) (entries_of known table) (λ e i. record {
    outlined = each_in (λ (x : Entry). Outlined b q at x.outline x.price) (entries_of known table) e h.is.tabled.attained i;
    rule = each_in (HasRule b) (entries_of known table) e h.is.rules i;
    within = each_in EntryWithin (entries_of known table) e h.is.within i;
  });
  covers = λ o price c w. let x = h.is.tabled.covered o price c in record { entry = x.0; within = x.1; outline = x.2; below = x.3 };
}

-- the same for a position's own range
module _ (b : Book) (q : Request) (at : Position) (n : ℕ) (low : at.lo ≤ n) (high : n < at.hi) where
  narrowed_same : (ns : List ℕ) (fs : List Flight) (next : Option Position) → IsPath b q.slices at (n ∷ ns) fs next ↔ IsPath b q.slices (narrowed at n) (n ∷ ns) fs next
  narrowed_same ns fs next = begins_narrowed b q.slices at n ns fs next low high

  pub head_here : (ns : List ℕ) (fs : List Flight) (next : Option Position) → IsHead b q.slices (narrowed at n) ns fs next → IsHead b q.slices at ns fs next
  head_here ns fs next h = record { path = path_here b q at (narrowed at n) n refl refl narrowed_same ns fs next h.path; stays = h.stays }

  pub head_there : (ns : List ℕ) (fs : List Flight) (next : Option Position) → BeginsBy n ns → IsHead b q.slices at ns fs next → IsHead b q.slices (narrowed at n) ns fs next
  head_there ns fs next w h = record { path = path_there b q at (narrowed at n) n refl refl narrowed_same ns fs next w h.path; stays = h.stays }

  heads_begin : (o : Outline) (ns : List ℕ) → HeadPaths b q (narrowed at n) o ns → BeginsBy n ns
  heads_begin o ns h = begins_by b q (narrowed at n) n refl refl ns h.0 o.after h.1.path

  pub heads_have : (known : List RuledOutline) (table : List Priced) → HasThose b q (narrowed at n) (HeadPaths b q (narrowed at n)) known table → HasThose b q at (HeadPaths b q (narrowed at n)) known table
  heads_have known table h = has_here b q at (narrowed at n) n refl refl narrowed_same (HeadPaths b q (narrowed at n)) known table heads_begin h

  pub begun_have : (known : List RuledOutline) (table : List Priced) → IsPricedTable b q (narrowed at n) known table → HasThose b q at (λ o ns. BeginsBy n ns) known table
  begun_have known table h = has_here b q at (narrowed at n) n refl refl narrowed_same (λ o ns. BeginsBy n ns) known table (λ o ns w. w) (has_of_table b q (narrowed at n) (λ o ns. BeginsBy n ns) known table h)

-- a number in a list of those that depart from a place
pub departs_at : (flights all : List Flight) (place : Place) (lo hi : ℕ) (numbers : List ℕ) → all ≡ flights → AreDepartures all place lo hi numbers → (i d : ℕ) → i < length numbers
    → (lo ≤ get_or numbers i d) × (get_or numbers i d < hi) × DepartsFrom flights place (get_or numbers i d)
departs_at flights all place lo hi numbers e are i d lt =
    subst (λ fs. (lo ≤ get_or numbers i d) × (get_or numbers i d < hi) × DepartsFrom fs place (get_or numbers i d)) e ((are.are (get_or numbers i d)).0 (in_list numbers i d lt))
