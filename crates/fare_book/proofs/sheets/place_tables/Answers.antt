use Rattle.std.proofs.Common.{Bor, rules, sym, ap, ◌∙◌}
use Rattle.std.specs.Map.{lookup}
use Rattle.std.specs.Map.Iter.{deref_pair}
use Rattle.std.proofs.lemmas.Map.Iter.{hash_map_turn, rest_all, rest_more}
use Rattle.fare_book.specs.Keys.{same_market}
use Rattle.fare_book.specs.declared.fare_table.FareTable.{FareTable}
use Rattle.fare_book.specs.declared.keys.Market.{Market}
use Rattle.fare_book.proofs.Finding.{market_found}
use Rattle.fare_book.proofs.Placing.{market_equivalence, placed_more, table_makes, untouched_right}
use Rattle.fare_book.proofs.sheets.place_tables.Goals as goal

pub loop-market-init : goal.loop-market-init
loop-market-init c = λ b ready m none.
    let tables = c.args.tables.now.entries in
    untouched_right b c.args.sheets.now.entries tables c.args.rules.now.entries ready m (ap (lookup (same_market m)) (sym c.into_iter-market-iterator.ensures.into_iter_gives.0) ∙ none)

pub place_table-requires : goal.place_table-requires
place_table-requires c =
    let item : Bor Market × Bor FareTable = (c.in-Some.market, c.in-Some.table) in
    let turn = hash_map_turn deref_pair c.loop-market.yielded c.into_iter-market-iterator.result c.loop-market.market-iterator c.next.new.self c.next.result item c.loop-market.yielded_by c.in-Some.is c.next.ensures.steps market_equivalence c.args.tables.now (search rules) (search rules) in
    (c.requires.0, table_makes c.requires.0 c.args.sheets.now.entries c.args.tables.now.entries c.args.rules.now.entries c.requires.1 c.in-Some.market.now c.in-Some.table.now (sym (market_found c.args.tables.now.entries c.in-Some.market.now) ∙ turn.1))

pub loop-market-preserved : goal.loop-market-preserved
loop-market-preserved c = λ b ready.
    let item : Bor Market × Bor FareTable = (c.in-Some.market, c.in-Some.table) in
    let turn = hash_map_turn deref_pair c.loop-market.yielded c.into_iter-market-iterator.result c.loop-market.market-iterator c.next.new.self c.next.result item c.loop-market.yielded_by c.in-Some.is c.next.ensures.steps market_equivalence c.args.tables.now (search rules) (search rules) in
    let makes = table_makes b c.args.sheets.now.entries c.args.tables.now.entries c.args.rules.now.entries ready c.in-Some.market.now c.in-Some.table.now (sym (market_found c.args.tables.now.entries c.in-Some.market.now) ∙ turn.1) in
    placed_more b c.loop-market.sheets.entries c.place_table.new.sheets.entries c.loop-market.market-iterator c.next.new.self c.in-Some.market.now c.in-Some.table.now
    (rest_more deref_pair c.loop-market.market-iterator c.next.new.self c.next.result item c.in-Some.is c.next.ensures.steps)
    (c.in_ok-place_table.ensures.right b makes) c.in_ok-place_table.ensures.others (c.loop-market.invariant b ready)

pub returns : goal.returns
returns c = λ b ready m. c.loop-market.invariant b ready m (ap (lookup (same_market m)) (rest_all deref_pair c.loop-market.market-iterator c.next.new.self c.next.result c.in-None.is c.next.ensures.steps))
