use Rattle.fare_book.specs.Tables.{AreKeyed, Fares, LiveRules, MarketHolds}
use Rattle.fare_book.specs.declared.keys.Market.{Market}
use Rattle.fare_book.proofs.Placing.{SettledSo}
use Rattle.fare_book.proofs.sheets.touch_stale.Given as goal

abbrev pub invariant-loop-market : goal.invariant-loop-market
invariant-loop-market l = record {
  holds : (fare : Fares) (rule : LiveRules) → AreKeyed fare → ((m : Market) → MarketHolds fare rule l.changed.keys l.sheets.entries l.initial.tables.entries m) → (m : Market) → MarketHolds fare rule l.changed.keys l.sheets.entries l.tables.entries m;
  settled : SettledSo l.sheets.entries l.changed.keys l.tables.entries l.market-iterator;
}
