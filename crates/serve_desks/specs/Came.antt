-- What came of the filing.
use Rattle.std.specs.Prelude.{◌≡◌, List, length}
use Rattle.std.specs.Arc.{arc_value}
use Rattle.fare_law.specs.Book.{Book}
use Rattle.fare_law.specs.declared.filings.Filing.{Filing}
use Rattle.fare_versions.specs.Histories.{House}
use Rattle.serve_desks.specs.declared.beside.Filings.{Filings}
use Rattle.serve_desks.specs.Judging.{Judged}

-- how each later filing was judged, with the receipt and the book of the clerk's last version
pub record CameOf (house : House) (start : Book) (later : List Filing) (f : Filings) : Type 0 where
  pub opening : f.opening ≡ length start.entries
  pub judged : Judged start.timetable start.entries later f.filed f.receipt.entries
  pub same_house : f.receipt.house ≡ house
  pub same_book : (arc_value f.book).entries ≡ f.receipt.entries
  pub same_timetable : (arc_value f.book).timetable ≡ start.timetable
