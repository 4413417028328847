-- Histories: what was filed with one house, in order.
use Rattle.std.specs.Prelude.{List}
use Rattle.logbook.specs.Pages.{Book as Page}
use Rattle.fare_law.specs.declared.filings.Filing.{Filing}

-- the name of a history, which tells it from every other
abbrev pub House : Type 0
House = Page

-- what is known of a history: its name, and its entries up to some point
pub record HouseHistory : Type 0 where
  pub house : House
  pub entries : List Filing
