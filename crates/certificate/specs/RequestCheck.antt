-- The request check: the certificate is of the version and the request that are checked.
use Rattle.std.specs.Prelude.{◌≡◌, ◌≢◌, ◌⊎◌, ℕ, length}
use Rattle.certificate.specs.declared.parts.Certificate.{Certificate}
use Rattle.fare_law.specs.declared.requests.Request.{Request}
use Rattle.fare_law.specs.Book.{Book}

-- the number of a version is that of its filings
abbrev pub IsOf : Certificate → Book → Request → Type 0
IsOf c b q = (c.number ≡ length b.entries) × (c.request ≡ q)

-- 1 where the version is another one, else 2 where the request is.
abbrev pub IsOfAnother : Certificate → Book → Request → ℕ → Type 0
IsOfAnother c b q place =
    ((c.number ≢ length b.entries) × (place ≡ 1))
    ⊎ ((c.number ≡ length b.entries) × (c.request ≢ q) × (place ≡ 2))
