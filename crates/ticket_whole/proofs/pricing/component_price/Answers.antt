use Rattle.std.proofs.Common.{None, Some, inl, inr, rules, arith}
use Rattle.std.proofs.lemmas.List.{nil_from_length}
use Rattle.ticket_whole.proofs.PriceSums.{numbered, part_price}
use Rattle.ticket_whole.proofs.pricing.component_price.Goals as goal
use Rattle.ticket_whole.proofs.pricing.component_price.Goals.{then-len-eq0-via-then-len-eq0, then-len-eq0-via-else-len-eq0+then-has_unknown_flight}

pub overflow_add-result : goal.overflow_add-result
overflow_add-result c = omega (arith, (c.limits.ensures.fares _ _ c.in_ok-row.ensures.0).1.amount, c.share.ensures.low, c.charge.ensures.low)

pub overflow_add-result-2 : goal.overflow_add-result-2
overflow_add-result-2 c = omega (arith, (c.limits.ensures.fares _ _ c.in_ok-row.ensures.0).1.amount, c.share.ensures.low, c.charge.ensures.low, c.surcharge.ensures.low)

pub returns-clause-value : goal.returns-clause-value
returns-clause-value c = record {
  flights = _;
  fare = _;
  rule = _;
  numbered = numbered c.args.book.now c.args.component.now.flights (λ u. absurd (let t = c.if-has_unknown_flight.ensures.1 u in cc));
  some = search rules;
  fare_is = c.in_ok-row.ensures.0;
  rule_is = c.in_ok-row.ensures.1;
  adds = search rules;
}

pub returns-clause-low : goal.returns-clause-low
returns-clause-low c = omega (arith, (c.limits.ensures.fares _ _ c.in_ok-row.ensures.0).1.amount, c.share.ensures.low, c.charge.ensures.low, c.surcharge.ensures.low)

pub returns-then-len-eq0-clause-part : goal.returns-then-len-eq0-clause-part
returns-then-len-eq0-clause-part c =
    part_price c.args.book.now c.args.component.now None
    (elim c.then-len-eq0.branch [
      | then-len-eq0-via-then-len-eq0 w ↦ inl (nil_from_length _ (search rules))
      | then-len-eq0-via-else-len-eq0+then-has_unknown_flight w ↦ inr (inl (search rules))
    ])

pub returns-clause-part : goal.returns-clause-part
returns-clause-part c = part_price c.args.book.now c.args.component.now (Some _) (returns-clause-value c)
