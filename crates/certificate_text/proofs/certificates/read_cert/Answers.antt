use Rattle.certificate_text.specs.Unread.{Text}
use Rattle.certificate_text.proofs.CertLines.{read_again}
use Rattle.certificate_text.proofs.certificates.read_cert.Goals as goal

pub returns-clause-again : goal.returns-clause-again
returns-clause-again c = read_again c.one_reading.ensures.certificate c.one_reading.ensures.none (Text c.args.bytes.now 1) c.read_from.result c.read_from.ensures.of c.read_from.ensures.limits c.read_from.ensures.fault
