use Rattle.std.proofs.Common.{arith, refl}
use Rattle.search_steps.proofs.Kept.{in_another_order, keeps_pushed, table_last, tables_more}
use Rattle.search_steps.proofs.tables.Tables.find.Goals as goal

pub returns-clause-right : goal.returns-clause-right
returns-clause-right c =
    let b = c.args.case.now.book.now in
    let q = c.args.case.now.request.now in
    let old = c.args.self.now in
    let kept = c.push.new.self.items in
    let right = c.requires.right in
    record {
      tables = tables_more b q old.kept.items kept (record { at = c.args.at.now; entries = c.in_order.result }) c.in_ok-push.ensures.items right.tables (in_another_order b q c.args.at.now c.in_ok-entries.entries c.in_order.result c.in_order.ensures c.in_ok-entries.ensures.table);
      network = c.outlines_of.ensures.network;
    }

pub returns-clause-found : goal.returns-clause-found
returns-clause-found c =
    table_last c.args.self.now.kept.items c.push.new.self.items (record { at = c.args.at.now; entries = c.in_order.result }) _ c.len-place.result c.in_ok-push.ensures.items (omega (arith, c.len-place.ensures)) refl

pub returns-clause-stays : goal.returns-clause-stays
returns-clause-stays c = keeps_pushed c.args.self.now.kept.items c.push.new.self.items (record { at = c.args.at.now; entries = c.in_order.result }) c.in_ok-push.ensures.items
