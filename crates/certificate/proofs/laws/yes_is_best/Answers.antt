-- The theorems of their own files.
use Rattle.certificate.proofs.OneCertificate.{same_answers}
use Rattle.certificate.proofs.YesIsBest.{yes_is_best}
use Rattle.certificate.proofs.laws.yes_is_best.Goals as goal

pub returns : goal.returns
returns c = record { best = yes_is_best; same = same_answers }
