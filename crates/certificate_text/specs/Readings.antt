-- What is read is of one certificate or has one first fault, and not both.
use Rattle.std.specs.Prelude.{◌≡◌, ◌≢◌, Result, Ok, Err}
use Rattle.certificate.specs.declared.parts.Certificate.{Certificate}
use Rattle.certificate_text.specs.CertText.{CertLines, CertText, IsCertificate}
use Rattle.certificate_text.specs.declared.faults.CertFault.{CertFault}
use Rattle.certificate_text.specs.declared.faults.CertFault.TheVariants.{Mem}
use Rattle.certificate_text.specs.Faults.{Head, FaultFrom}
use Rattle.certificate_text.specs.Unread.{Unread, Text, Numbered}

-- the text of the certificate, or its lines
abbrev pub IsOfCert : Unread → Certificate → Type 0
IsOfCert (Text text number) c = CertText c text
IsOfCert (Numbered lines end) c = CertLines c lines

-- No two certificates have one text, or the same lines.
abbrev pub OneCertificate : Type 0
OneCertificate = (from : Unread) (c d : Certificate) → IsCertificate c → IsCertificate d → IsOfCert from c → IsOfCert from d → c ≡ d

-- The text of a certificate, or its lines, have no fault.
abbrev pub NoFault : Type 0
NoFault = (from : Unread) (c : Certificate) (fault : CertFault) → IsCertificate c → IsOfCert from c → FaultFrom Head from fault → fault ≡ Mem

-- There is one first fault.
abbrev pub OneFault : Type 0
OneFault = (from : Unread) (f g : CertFault) → f ≢ Mem → g ≢ Mem → FaultFrom Head from f → FaultFrom Head from g → f ≡ g

-- the certificate was read, unless memory ran out
abbrev pub IsRead : Certificate → Result Certificate CertFault → Type 0
IsRead c (Ok found) = found ≡ c
IsRead c (Err fault) = fault ≡ Mem
