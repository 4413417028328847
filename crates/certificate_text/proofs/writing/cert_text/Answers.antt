use Rattle.std.proofs.Common.{subst, sym}
use Rattle.certificate_text.specs.CertText.{CertText}
use Rattle.certificate_text.proofs.PushLemmas.{cert_alone}
use Rattle.certificate_text.proofs.writing.cert_text.Goals as goal

pub returns : goal.returns
returns c =
    let cert = c.args.certificate.now in
    subst (CertText cert) (sym c.from_vec.ensures) (cert_alone cert c.new-text.result.items c.push_cert_text.new.text.items c.new-text.ensures.items c.in_ok-push_cert_text.ensures)
