use Rattle.std.proofs.Common.{◌++◌, List, ap, ◌∙◌}
use Rattle.certificate.specs.declared.parts.CertAnswer.{CertAnswer}
use Rattle.certificate_text.specs.CertText.{answer_lines, head_lines, text_of}
use Rattle.certificate_text.proofs.PushLemmas.{cert_added}
use Rattle.certificate_text.proofs.writing.push_cert_text.Goals as goal

pub returns : goal.returns
returns c =
    let cert = c.args.certificate.now in
    let request = c.in_ok-request.request in
    cert_added cert request c.args.text.now.items c.push_head.new.text.items c.push_answers.new.text.items c.push_rows.new.text.items c.extend_from_slice.new.self.items
    (record { compact = c.in_ok-request.ensures.text; read = c.in_ok-request.ensures.again })
    (c.in_ok-push_head.ensures ∙ ap (λ r. c.args.text.now.items ++ text_of (head_lines cert.number r)) c.as_slice.ensures)
    (c.in_ok-push_answers.ensures ∙ ap (λ (xs : List CertAnswer). c.push_head.new.text.items ++ text_of (answer_lines xs)) c.as_slice-2.ensures)
    c.in_ok-push_rows.ensures
    c.in_ok-extend_from_slice.ensures.items
