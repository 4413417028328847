use Rattle.search_check.proofs.CertificateTexts.{Known, has_text}
use Rattle.std.proofs.Common.{arith}
use Rattle.search_check.proofs.laws.certificates_have_texts.Goals as goal

pub returns : goal.returns
returns c b q kept request =
    let known : Known b q = record {
      charges = record { charged = c.limits_are_met.ensures.charged; surcharged = c.limits_are_met.ensures.surcharged };
      size = λ size n is more. (c.one_size.ensures.more b q size n is).1 more;
      written = c.reached_is_written.ensures.reached b q kept.limits request;
      codes = c.reached_is_written.ensures.codes b q kept.limits (let count = request.count in omega (arith, count));
      short = c.runs_are_short.ensures.runs b q;
      runs = λ d. c.search_meets_checks.ensures.runs d b q;
    } in
    has_text b q known kept request
