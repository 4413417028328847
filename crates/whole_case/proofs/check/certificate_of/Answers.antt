-- The certificate and the version, where they refuse the case, and the whole.
use Rattle.std.proofs.lemmas.Result.{err_from_is_err_and}
use Rattle.whole_case.specs.Certificates.{certificate_in}
use Rattle.whole_case.proofs.CaseSteps.{in_it, number_stops, stage_stops}
use Rattle.whole_case.proofs.check.certificate_of.Goals as goal

pub returns-in_err-certificate-clause-certificate : goal.returns-in_err-certificate-clause-certificate
returns-in_err-certificate-clause-certificate c =
    let p = err_from_is_err_and c.from_residual.result c.from_residual.ensures.1 in
    let asked = c.args.asked.now in
    rw (p.1, p.2) (stage_stops c.args.at asked (certificate_in asked.certificate asked.end) c.in_err-certificate.field-0.0 c.in_err-certificate.ensures.certificate)

pub returns-in_err-check_version-clause-certificate : goal.returns-in_err-check_version-clause-certificate
returns-in_err-check_version-clause-certificate c =
    let p = err_from_is_err_and c.from_residual-in_err-check_version.result c.from_residual-in_err-check_version.ensures.1 in
    let asked = c.args.asked.now in
    rw (p.1, p.2) (number_stops c.args.at asked (certificate_in asked.certificate asked.end) c.in_ok-certificate.certificate c.in_ok-certificate.ensures.certificate
    c.in_err-check_version.field-0.0 c.in_err-check_version.ensures)

pub returns-clause-certificate : goal.returns-clause-certificate
returns-clause-certificate c =
    let asked = c.args.asked.now in
    in_it c.args.at asked (certificate_in asked.certificate asked.end) c.in_ok-certificate.certificate c.in_ok-certificate.ensures.certificate c.in_ok-check_version.ensures
