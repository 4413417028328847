use Rattle.std.proofs.Common.{arith}
use Rattle.certificate.specs.declared.parts.Certificate.{Certificate}
use Rattle.certificate.specs.CertOf.{CertOf}
use Rattle.certificate.specs.Checks.{Checks}
use Rattle.fare_law.specs.Limits.{IsRequest}
use Rattle.search_check.specs.Texts.{IsKept}
use Rattle.search_check.proofs.SameCases.{first_slice}
use Rattle.whole_case.specs.declared.search.SearchCase.{SearchCase}
use Rattle.search_check.proofs.laws.searches_are_accepted.Goals as goal

meets : (c : goal.After-search_meets_checks) (found : SearchCase) → IsKept found.book → IsRequest found.request → (d : Certificate) → CertOf found.book found.request d → Checks d found.book found.request
meets c found kept request d made =
    let first = first_slice found.request.slices (let n = request.count in omega (arith, n)) in
    c.search_meets_checks.ensures.checks d found.book found.request kept.ascending kept.limits.fares.keys request.best.0 first.0 first.1 made

pub returns-clause-lines : goal.returns-clause-lines
returns-clause-lines c found kept request best at budget bytes added d spelled small few made adds = (
  c.added_certificates_are_spelled.ensures.lines best at bytes added found d spelled (c.certificates_have_texts.ensures found.book found.request kept request budget d small few made) adds,
  meets c found kept request d made,
)

pub returns-clause-text : goal.returns-clause-text
returns-clause-text c found kept request best at budget bytes added d spelled small few made adds = (
  c.added_certificates_are_spelled.ensures.text best at bytes added found d spelled (c.certificates_have_texts.ensures found.book found.request kept request budget d small few made) adds,
  meets c found kept request d made,
)
