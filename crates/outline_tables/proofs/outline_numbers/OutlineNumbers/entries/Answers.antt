use Rattle.outline_tables.specs.declared.outline_numbers.Priced.{Priced}
use Rattle.outline_tables.proofs.NumberFacts.{entries_read}
use Rattle.outline_tables.proofs.outline_numbers.OutlineNumbers.entries.Goals as goal

pub loop-one-preserved : goal.loop-one-preserved
loop-one-preserved c =
    let none : Priced = record { outline = 0; price = 0 } in
    entries_read c.args.self.now.of.items c.args.priced.now c.loop-one.one-index none c.index-ruled.result.now c.in_ok-share.field-0 c.loop-one.entries.items c.push.new.self.items c.loop-one-test.true c.requires c.index-ruled.ensures c.in_ok-share.ensures c.loop-one.invariant c.in_ok-push.ensures.items
