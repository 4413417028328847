-- The certificate of a case: read from the lines of its section, or the first line at fault.
use Rattle.std.specs.Prelude.{◌≡◌, ℕ, List, Some, Ok, Err}
use Rattle.certificate.specs.declared.parts.Certificate.{Certificate}
use Rattle.certificate_text.specs.declared.faults.CertFault.{CertFault}
use Rattle.certificate_text.specs.CertText.{CertLines, IsCertificate}
use Rattle.certificate_text.specs.Faults.{FaultFrom, Head}
use Rattle.certificate_text.specs.Unread.{Numbered}
use Rattle.fare_law.specs.declared.rows.TextLine.{TextLine}
use Rattle.whole_case.specs.Refusals.{of_certificate}
use Rattle.whole_case.specs.Stages.{Stage}

-- the certificate whose lines these are, or the first line at fault; a missing line has the number of the line of #end
abbrev pub certificate_in : List TextLine → ℕ → Stage Certificate
certificate_in lines end (Ok c) = IsCertificate c × CertLines c lines
certificate_in lines end (Err refusal) = (fault : CertFault) × FaultFrom Head (Numbered lines end) fault × (of_certificate fault ≡ Some refusal)
