-- What a made case has: its lines, and the sections that they are read as.
use Rattle.std.specs.Prelude.{◌≡◌, ℕ, List, [], ◌∷◌, ◌++◌, Ok, codes}
use Rattle.case_text.specs.declared.contents.Case.{Case}
use Rattle.case_text.specs.declared.kinds.CaseKind.TheVariants.{Search}
use Rattle.case_text.specs.Entries.{case_of}
use Rattle.fare_law.specs.declared.rows.TextLine.{TextLine}
use Rattle.fare_law.specs.Lists.{Matched}
use Rattle.case_maker.specs.Filings.{IsFilingLine}
use Rattle.case_maker.specs.Lines.{IsFlightLine, IsPlaceLine, IsSeatLine, legs, place_names}
use Rattle.case_maker.specs.Sections.{IsFlightOf, IsPlaceOf, IsSeatsOf, request_line}

-- the lines before the filing, those of the filing and those after it
abbrev pub whole_lines : List (List ℕ) → List (List ℕ) → List (List ℕ) → List ℕ → List (List ℕ)
whole_lines places flights seats filing =
    codes "#places" ∷ (places ++ codes "#flights" ∷ (flights ++ codes "#seats" ∷ (seats
    ++ codes "#filings" ∷ filing ∷ codes "#request" ∷ request_line ∷ codes "#end" ∷ [])))

-- These are the lines of a made case of so many hubs.
pub record AreMadeLines (size : ℕ) (ls : List (List ℕ)) : Type 0 where
  pub places : List (List ℕ)
  pub flights : List (List ℕ)
  pub seats : List (List ℕ)
  pub filing : List ℕ
  pub places_are : Matched IsPlaceLine (place_names size) places
  pub flights_are : Matched IsFlightLine (legs size) flights
  pub seats_are : Matched IsSeatLine (legs size) seats
  pub filing_is : IsFilingLine size filing
  pub lines_are : ls ≡ whole_lines places flights seats filing

-- These are the sections of a made case of so many hubs.
pub record HasSections (size : ℕ) (case : Case) : Type 0 where
  pub places : Matched IsPlaceOf (place_names size) case.places
  pub flights : Matched IsFlightOf (legs size) case.flights
  pub seats : Matched IsSeatsOf (legs size) case.seats
  pub filing : TextLine
  pub filings : case.filings ≡ filing ∷ []
  pub filing_is : IsFilingLine size filing.bytes
  pub request : TextLine
  pub requests : case.requests ≡ request ∷ []
  pub request_is : request.bytes ≡ request_line

-- The bytes spell a case with the sections of a made one.
pub record SpellsMade (size : ℕ) (bytes : List ℕ) : Type 0 where
  pub case : Case
  pub spelled : case_of Search bytes ≡ Ok case
  pub has : HasSections size case
