-- The theorems of their own files, from the laws of words and of residuals' texts.
use Rattle.residual_keys.proofs.WordFacts.{Words}
use Rattle.certificate_text.proofs.CertLines.{certificate_right, fault_one, one_certificate}
use Rattle.certificate_text.proofs.laws.one_reading.Goals as goal

pub returns : goal.returns
returns c =
    let k : Words = record { cut = c.cuts_tell.ensures.first; number = c.numbers_tell.ensures.number; digits = c.numbers_tell.ensures.digits } in
    record { certificate = one_certificate c.cuts_tell.ensures.last c.one_residual_text.ensures k; none = certificate_right k; fault = fault_one k }
