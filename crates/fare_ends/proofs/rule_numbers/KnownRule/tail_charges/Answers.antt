use Rattle.std.proofs.Common.{◌≡◌, ◌≤◌, ◌+◌, ◌++◌, sym, ap, subst, ◌∙◌}
use Rattle.fare_groups.specs.Groups.{extra_of}
use Rattle.fare_law.specs.declared.rules.Rule.{Rule}
use Rattle.fare_law.specs.Parts.{FlightsHold, StopoversHold, stopover_charge, surcharges}
use Rattle.fare_ends.proofs.Counted.{adds_parts}
use Rattle.fare_ends.proofs.Permitted.{permits_tails}
use Rattle.law_lemmas.proofs.Tests.{not_so}
use Rattle.fare_ends.proofs.rule_numbers.KnownRule.tail_charges.Goals as goal

pub returns-then-not-flights_ok-clause-none : goal.returns-then-not-flights_ok-clause-none
returns-then-not-flights_ok-clause-none c = λ head h.
    let r = c.args.self.now in
    let fs = c.args.flights.now in
    not_so c.flights_ok.result c.if-not-flights_ok.true c.flights_ok.ensures.1 (subst (λ (x : Rule). FlightsHold x fs) (sym c.deref-rule.ensures) (permits_tails r.rule r.carrier head fs h).0)

pub returns-then-not-stopovers_ok-clause-none : goal.returns-then-not-stopovers_ok-clause-none
returns-then-not-stopovers_ok-clause-none c = λ head h.
    let r = c.args.self.now in
    let fs = c.args.flights.now in
    not_so c.stopovers_ok.result c.if-not-stopovers_ok.true c.stopovers_ok.ensures.1 (subst (λ (x : Rule). StopoversHold x fs) (sym c.deref-rule.ensures) (permits_tails r.rule r.carrier head fs h).1)

pub returns-then-not-keeps_carrier-clause-none : goal.returns-then-not-keeps_carrier-clause-none
returns-then-not-keeps_carrier-clause-none c = λ head h.
    let r = c.args.self.now in
    c.keeps_carrier.ensures c.if-not-keeps_carrier.true (permits_tails r.rule r.carrier head c.args.flights.now h).2

pub returns-clause-some : goal.returns-clause-some
returns-clause-some c = λ head.
    let r = c.args.self.now in
    let fs = c.args.flights.now in
    let charge : c.charge.result ≡ stopover_charge r.rule fs = c.charge.ensures.sum ∙ ap (λ (x : Rule). stopover_charge x fs) c.deref-rule.ensures in
    let added : c.surcharge.result ≡ surcharges r.rule.cat12 fs = c.surcharge.ensures.sum ∙ ap (λ (x : Rule). surcharges x.cat12 fs) c.deref-rule.ensures in
    let both : c.charge.result + c.surcharge.result ≡ extra_of r.rule fs = ap (λ n. n + c.surcharge.result) charge ∙ ap (λ n. stopover_charge r.rule fs + n) added in
    subst (λ n. (extra_of r.rule head + n) ≤ extra_of r.rule (head ++ fs)) (sym both) (adds_parts r.rule head fs)
