-- What is asked and the certificate, where they refuse the case, and the whole.
use Rattle.std.proofs.lemmas.Result.{err_from_is_err_and}
use Rattle.case_text.specs.declared.kinds.CaseKind.TheVariants.{Check}
use Rattle.whole_case.specs.Certificates.{certificate_in}
use Rattle.whole_case.proofs.CaseSteps.{asks_stop, checked, more_given, more_stops}
use Rattle.whole_case.proofs.check.load_check_case.Goals as goal

pub returns-in_err-asked-clause-case : goal.returns-in_err-asked-clause-case
returns-in_err-asked-clause-case c =
    let p = err_from_is_err_and c.from_residual.result c.from_residual.ensures.1 in
    rw (p.1, p.2) (asks_stop Check c.args.at c.args.bytes.now (λ asked. certificate_in asked.certificate asked.end) (checked c.args.best) c.in_err-asked.field-0.0 c.in_err-asked.ensures)

pub returns-in_err-certificate-clause-case : goal.returns-in_err-certificate-clause-case
returns-in_err-certificate-clause-case c =
    let p = err_from_is_err_and c.from_residual-in_err-certificate.result c.from_residual-in_err-certificate.ensures.1 in
    rw (p.1, p.2) (more_stops Check c.args.at c.args.bytes.now (λ asked. certificate_in asked.certificate asked.end) (checked c.args.best) c.in_ok-asked.asked c.in_ok-asked.ensures
    c.in_err-certificate.field-0.0 c.in_err-certificate.ensures.certificate)

pub returns-clause-case : goal.returns-clause-case
returns-clause-case c =
    rw (c.into_parts-book.ensures.book, c.with_best.ensures, c.into_parts-book.ensures.request) (more_given Check c.args.at c.args.bytes.now (λ asked. certificate_in asked.certificate asked.end) (checked c.args.best)
    c.in_ok-asked.asked c.in_ok-asked.ensures c.in_ok-certificate.certificate c.in_ok-certificate.ensures.certificate)
