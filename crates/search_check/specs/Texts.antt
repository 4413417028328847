-- That the certificate of a search has a text.
use Rattle.std.specs.Prelude.{ℕ, ◌≤◌, ◌<◌, ◌^◌, length}
use Rattle.certificate.specs.declared.parts.Certificate.{Certificate}
use Rattle.certificate.specs.CertOf.{CertOf}
use Rattle.certificate_text.specs.CertText.{IsCertificate}
use Rattle.fare_law.specs.declared.limits.TheConstants.{MOST_ENTRIES}
use Rattle.fare_law.specs.declared.requests.Request.{Request}
use Rattle.fare_law.specs.Book.{Book}
use Rattle.fare_law.specs.Flights.{Ascending}
use Rattle.residual_keys.specs.Searches.{ReachesMoreThan}
use Rattle.residual_keys.specs.Written.{InLimits}

-- What every book that is kept meets: it is within its limits, its flights stand in the order of their departures, and it has at most a million filings.
pub record IsKept (b : Book) : Type 0 where
  pub limits : InLimits b
  pub ascending : Ascending b.timetable.flights
  pub few : length b.entries ≤ MOST_ENTRIES

-- The certificate of a search of which no more residuals are reached than a budget of 32 bits has a text of its own.
abbrev pub HasText : Book → Request → Type 0
HasText b q = (budget : ℕ) (c : Certificate) → budget < 2 ^ 32 → (ReachesMoreThan budget b q → ⊥) → CertOf b q c → IsCertificate c
