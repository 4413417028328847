-- What a clerk publishes: a book, under the name of the clerk's house.
use Rattle.std.specs.Prelude.{◌≡◌}
use Rattle.fare_law.specs.Book.{Book}
use Rattle.fare_law.specs.Lists.{IsPrefix}
use Rattle.fare_versions.specs.Histories.{House, HouseHistory}

pub record Published : Type 0 where
  pub house : House
  pub book : Book

-- what was filed up to it
abbrev pub history_of : Published → HouseHistory
history_of p = record { house = p.house; entries = p.book.entries }

-- a version of the same house that is no earlier, over the same timetable
pub record Grows (before after : Published) : Type 0 where
  pub house : after.house ≡ before.house
  pub timetable : after.book.timetable ≡ before.book.timetable
  pub entries : IsPrefix before.book.entries after.book.entries
