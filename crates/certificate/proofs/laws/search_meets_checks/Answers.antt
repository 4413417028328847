-- The theorems of their own files.
use Rattle.certificate.proofs.ByRuns.{same_by_runs}
use Rattle.certificate.proofs.MeetsChecks.{search_meets_checks}
use Rattle.certificate.proofs.OneCertificate.{one_certificate}
use Rattle.certificate.proofs.laws.search_meets_checks.Goals as goal

pub returns : goal.returns
returns c = record { checks = search_meets_checks; runs = same_by_runs; one = one_certificate }
