use Rattle.fare_filing.proofs.CompactLemmas.{fare_chain}
use Rattle.fare_filing.proofs.compact.fare_put.Goals as goal

pub returns-clause-text : goal.returns-clause-text
returns-clause-text c =
    fare_chain (record { key = record { carrier = c.in_ok-carrier.carrier; from = c.in_ok-from.from; to = c.in_ok-to.to; basis = c.in_ok-basis.basis }; class = c.in_ok-class.class; kind = c.in_ok-kind.kind; amount = c.in_ok-amount.amount; rule = c.in_ok-rule.rule })
    _ _ _ _ _ _ _ _ _ _ c.in_ok-amount.ensures.text c.in_ok-basis.ensures.text c.in_ok-carrier.ensures.text c.in_ok-class.ensures.text c.in_ok-from.ensures.text c.in_ok-kind.ensures c.in_ok-rule.ensures.text c.in_ok-to.ensures.text c.in_ok-rest.ensures
