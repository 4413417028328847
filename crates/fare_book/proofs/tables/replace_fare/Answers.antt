use Rattle.std.proofs.Common.{Some, is_some, sym, ap, subst, ◌∙◌}
use Rattle.fare_book.specs.Tables.{Changes, fares_in}
use Rattle.fare_book.proofs.Finding.{market_changes, market_found}
use Rattle.fare_book.proofs.FareSteps.{changes_from, changes_within}
use Rattle.fare_book.proofs.TableRows.{ok_both}
use Rattle.fare_book.proofs.tables.replace_fare.Goals as goal

pub returns-in-Some : goal.returns-in-Some
returns-in-Some c =
    let old = c.args.tables.now.entries in
    let market = c.market_of-market.result in
    let after = c.put_fare_in.new.table in
    let here = sym (c.in-Some.ensures.value ∙ market_found old market) in
    let step = market_changes old (c.get_mut.follows.lender after).entries market (Some after) ((c.get_mut.follows.holds after).3 (ap is_some (sym c.in-Some.ensures.value))).0 in
    ok_both c.put_fare_in.result _ _ _
    (λ was told puts. changes_within c.args.sheets.now.entries old (c.get_mut.follows.lender after).entries c.args.fare.now.key (Some c.args.fare.now) was market c.in-Some.table.now after c.market_of-market.ensures here told puts step)
    c.put_fare_in.ensures.old c.put_fare_in.ensures.puts

pub returns : goal.returns
returns c =
    let old = c.get_mut.follows.lender-at-none.entries in
    let mid = c.take_table.new.tables.entries in
    let table = c.put_fare_in-2.new.table in
    subst (λ t. Changes c.args.sheets.now.entries t.entries c.insert.new.self.entries c.args.fare.now.key (Some c.args.fare.now) c.in_ok-old.old) c.get_mut.follows.holds-at-none
    (changes_from c.args.sheets.now.entries old mid c.insert.new.self.entries c.args.fare.now.key (Some c.args.fare.now) c.in_ok-old.old c.market_of-market.result (fares_in c.in_ok-table.table) table
    c.market_of-market.ensures c.in_ok-table.ensures.table c.in_ok-table.ensures.others c.in_ok-old.ensures.old c.in_ok-old.ensures.puts
    (market_changes mid c.insert.new.self.entries c.market_of-market.result (Some table) c.in_ok-insert.ensures.updates.0))
