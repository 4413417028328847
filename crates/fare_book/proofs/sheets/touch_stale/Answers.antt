use Rattle.std.proofs.Common.{Bor, rules, sym, ap, subst, ◌∙◌}
use Rattle.std.specs.List.{list_any}
use Rattle.std.specs.Map.{lookup}
use Rattle.std.specs.Map.Iter.{deref_pair}
use Rattle.std.specs.declared.sync.Arc.{Arc}
use Rattle.std.proofs.lemmas.Map.Iter.{hash_map_turn, rest_all, rest_more}
use Rattle.fare_law.specs.Sheets.{Sheet}
use Rattle.fare_book.specs.Keys.{same_market, same_rule}
use Rattle.fare_book.specs.Tables.{MarketHolds, rule_of}
use Rattle.fare_book.specs.declared.keys.Market.{Market}
use Rattle.fare_book.proofs.Finding.{market_found}
use Rattle.fare_book.proofs.Placing.{SettledSo, market_equivalence, none_has, none_left, settled_all, settled_more}
use Rattle.fare_book.proofs.sheets.touch_stale.Goals as goal

pub loop-market-init : goal.loop-market-init
loop-market-init c = record {
  holds = λ fare rule keyed holds m. holds m;
  settled = λ m s has none. none_has (lookup (same_market m) c.args.sheets.now.entries) s (ap (lookup (same_market m)) (sym c.into_iter-market-iterator.ensures.into_iter_gives.0) ∙ none) has;
}

pub loop-market-preserved : goal.loop-market-preserved
loop-market-preserved c =
    let item : Bor Market × Bor (Arc Sheet _) = (c.in-Some.market, c.in-Some.sheet) in
    let sheets = c.args.sheets.now.entries in
    let changed = c.args.changed.now.keys in
    let turn = hash_map_turn deref_pair c.loop-market.yielded c.into_iter-market-iterator.result c.loop-market.market-iterator c.next.new.self c.next.result item c.loop-market.yielded_by c.in-Some.is c.next.ensures.steps market_equivalence c.args.sheets.now (search rules) (search rules) in
    record {
      holds = λ fare rule keyed holds m. c.in_ok-touch.ensures.holds fare rule changed keyed (c.loop-market.invariant.holds fare rule keyed holds) m;
      settled = settled_more sheets changed c.loop-market.tables.entries c.touch.new.tables.entries c.loop-market.market-iterator c.next.new.self c.in-Some.market.now c.in-Some.sheet.now c.is_stale.result
          (rest_more deref_pair c.loop-market.market-iterator c.next.new.self c.next.result item c.in-Some.is c.next.ensures.steps)
          (sym (market_found sheets c.in-Some.market.now) ∙ turn.1)
          (c.is_stale.ensures ∙ ap (λ s. list_any (λ row. list_any (same_rule (rule_of row.fare)) changed) s.rows) c.deref.ensures)
          c.in_ok-touch.ensures.touched c.in_ok-touch.ensures.stay c.loop-market.invariant.settled;
    }

pub returns : goal.returns
returns c = λ fare rule keyed holds.
    let sheets = c.args.sheets.now.entries in
    let changed = c.args.changed.now.keys in
    settled_all sheets changed fare rule c.loop-market.tables.entries (c.loop-market.invariant.holds fare rule keyed holds)
    (subst (SettledSo sheets changed c.loop-market.tables.entries) (rest_all deref_pair c.loop-market.market-iterator c.next.new.self c.next.result c.in-None.is c.next.ensures.steps) c.loop-market.invariant.settled)

pub returns-then-is_empty : goal.returns-then-is_empty
returns-then-is_empty c = λ fare rule keyed holds.
    subst (λ ch. (m : Market) → MarketHolds fare rule ch c.args.sheets.now.entries c.args.tables.now.entries m) (none_left c.args.changed.now.keys (c.is_empty.ensures.0 c.if-is_empty.true)) holds
