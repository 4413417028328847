use Rattle.std.proofs.Common.{◌≡◌, ◌+◌, ◌++◌, ◌∷◌, [], length, sym, arith}
use Rattle.certificate.specs.declared.parts.CertAnswer.{CertAnswer}
use Rattle.certificate_check.proofs.Begins.{on_last_is}
use Rattle.fare_law.specs.Best.{Before}
use Rattle.fare_law.specs.Codes.{run_code}
use Rattle.certificate_check.proofs.fronts.comes_after.Goals as goal

pub returns-in-Some : goal.returns-in-Some
returns-in-Some c =
    let front = c.args.front.now in
    let departing = c.args.departing.now in
    let last = on_last_is (λ (a : CertAnswer). Before a.price (run_code a.moves) (front.price + departing.total) (run_code (front.moves.now ++ departing.mv ∷ []))) c.args.answers.now c.in-Some.last.now (sym c.in-Some.ensures.value) in
    let many : length c.args.answers.now ≡ c.args.request.now.best = omega arith in
    (λ t. (many, last.1 (c.is_before.ensures.0 t)), λ h. c.is_before.ensures.1 (last.0 h.1))
