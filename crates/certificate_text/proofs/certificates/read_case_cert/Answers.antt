use Rattle.certificate_text.specs.Unread.{Numbered}
use Rattle.certificate_text.proofs.CertLines.{read_again}
use Rattle.certificate_text.proofs.certificates.read_case_cert.Goals as goal

pub returns-clause-again : goal.returns-clause-again
returns-clause-again c = read_again c.one_reading.ensures.certificate c.one_reading.ensures.none (Numbered c.args.lines.now c.args.end) c.read_from.result c.read_from.ensures.of c.read_from.ensures.limits c.read_from.ensures.fault
