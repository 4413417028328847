-- The sections of a search's case that stand in another case.
use Rattle.std.specs.Prelude.{◌≡◌}
use Rattle.case_text.specs.declared.contents.Case.{Case}

-- the rows and lines of a search stand in both cases, with the same numbers
pub record SameSections (one other : Case) : Type 0 where
  pub places : other.places ≡ one.places
  pub flights : other.flights ≡ one.flights
  pub seats : other.seats ≡ one.seats
  pub filings : other.filings ≡ one.filings
  pub requests : other.requests ≡ one.requests
