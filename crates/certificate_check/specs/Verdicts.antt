-- What a verdict says of a certificate.
use Rattle.certificate.specs.Checks.{Checks, FirstFailure}
use Rattle.certificate.specs.declared.parts.Certificate.{Certificate}
use Rattle.certificate_check.specs.declared.verdict.Verdict.{Verdict}
use Rattle.certificate_check.specs.declared.verdict.Verdict.TheVariants.{Yes, No}
use Rattle.fare_law.specs.declared.requests.Request.{Request}
use Rattle.fare_law.specs.Book.{Book}

-- Yes: the checks hold. No: this check is the first that fails, at this place.
abbrev pub IsVerdict : Certificate → Book → Request → Verdict → Type 0
IsVerdict c b q Yes = Checks c b q
IsVerdict c b q (No rule place) = FirstFailure c b q rule place
