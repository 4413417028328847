use Rattle.std.proofs.Common.{◌∙◌, arith}
use Rattle.rule_text.proofs.ItemLemmas.{each_read, item_read, item_wrong, items_all, one_more}
use Rattle.rule_text.proofs.part.read_each.Goals as goal

pub loop-item-preserved : goal.loop-item-preserved
loop-item-preserved g c =
    let at = c.loop-item.item-index in
    let found = c.loop-item.found in
    let part = c.in_ok-read_part.field-0 in
    let form = g.T.RulePart.form in
    let read = c.in_ok-read_part.ensures in
    record {
      rest = item_read form found c.push.new.self part c.args.items.now at _ c.item-item.result c.loop-item-test.true c.item-item.is read.part c.push.ensures c.loop-item.invariant.rest;
      holds = each_read form g.T.RulePart.holds found c.push.new.self part c.push.ensures c.loop-item.invariant.holds read.limits;
      count = one_more form found c.push.new.self part at c.push.ensures c.loop-item.invariant.count;
    }

pub returns-in_err-read_part-clause-items : goal.returns-in_err-read_part-clause-items
returns-in_err-read_part-clause-items g c =
    item_wrong g.T.RulePart.form c.loop-item.found _ c.from_residual.result c.args.items.now c.loop-item.item-index _ c.item-item.result c.loop-item-test.true c.item-item.is c.in_err-read_part.ensures.part c.from_residual.ensures c.loop-item.invariant.rest

pub returns : goal.returns
returns g c = record {
  items = items_all g.T.RulePart.form c.loop-item.found c.args.items.now c.loop-item.item-index c.loop-item-test.false c.loop-item.invariant.rest;
  each = c.loop-item.invariant.holds;
  count = c.loop-item.invariant.count ∙ omega (arith, c.loop-item-test.false, c.loop-item.auto.item-index-end);
}
