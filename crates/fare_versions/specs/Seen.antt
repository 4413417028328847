-- What a watch is to a contract.
use Rattle.std.specs.Prelude.{◌≡◌, ◌≤◌, List, [], length, Option, unwrap_or}
use Rattle.fare_law.specs.Book.{Book}
use Rattle.fare_law.specs.Lists.{IsPrefix}
use Rattle.fare_law.specs.declared.filings.Filing.{Filing}
use Rattle.fare_versions.specs.Histories.{House, HouseHistory}
use Rattle.fare_versions.specs.Published.{Published}

-- the book that it saw last, and the longest list of entries that it was told of
pub record Sight : Type 0 where
  pub house : House
  pub book : Book
  pub told : List Filing

abbrev pub seen_by : Sight → Published
seen_by w = record { house = w.house; book = w.book }

-- what stands for the sight of a view that has seen nothing; no watch has such a view
abbrev pub unseen : Published
unseen = record { house = record { number = 0; log_name = 0; cells_name = 0 }; book = record { timetable = record { places = []; flights = []; seats = [] }; entries = [] } }

abbrev pub seen_of : Option Published → Published
seen_of view = unwrap_or view unseen

abbrev pub sight_of : Option Published → HouseHistory → Sight
sight_of view told = record { house = (seen_of view).house; book = (seen_of view).book; told = told.entries }

-- a watch that saw this last, and was told of what was filed up to it
pub record HasSeen (p : Published) (w : Sight) : Type 0 where
  pub house : w.house ≡ p.house
  pub book : w.book ≡ p.book
  pub told : w.told ≡ p.book.entries

-- Two versions of one history: the shorter begins the longer, and where they have as many filings they have the same, and
-- over the same timetable they are equal.
pub record SeeOneHistory (one other : Book) : Type 0 where
  pub begins : length one.entries ≤ length other.entries → IsPrefix one.entries other.entries
  pub entries : length one.entries ≡ length other.entries → one.entries ≡ other.entries
  pub same : one.timetable ≡ other.timetable → length one.entries ≡ length other.entries → one ≡ other
