use Rattle.std.proofs.Common.{◌≡◌, MatchBool, refl, subst, sym}
use Rattle.asked_keys.proofs.TakenKeys.{market_between}
use Rattle.asked_keys.proofs.settling.market_over.Goals as goal

pub returns-then-reverse : goal.returns-then-reverse
returns-then-reverse c =
    let f = c.first_of.result.now in
    let z = c.last_of.result.now in
    market_between c.args.reverse c.args.flights.now f z z.to f.from c.first_of.ensures.first c.last_of.ensures.last
    (subst (λ t. MatchBool t ((z.to ≡ z.to) × (f.from ≡ f.from)) ((z.to ≡ f.from) × (f.from ≡ z.to))) (sym c.if-reverse.true) (refl, refl))

pub returns-else-reverse : goal.returns-else-reverse
returns-else-reverse c =
    let f = c.first_of.result.now in
    let z = c.last_of.result.now in
    market_between c.args.reverse c.args.flights.now f z f.from z.to c.first_of.ensures.first c.last_of.ensures.last
    (subst (λ t. MatchBool t ((f.from ≡ z.to) × (z.to ≡ f.from)) ((f.from ≡ f.from) × (z.to ≡ z.to))) (sym c.if-reverse.false) (refl, refl))
