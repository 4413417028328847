use Rattle.std.proofs.Common.{List, take}
use Rattle.cheap_moves.specs.contracts.hopes.PathClassPartialEq.TheImpl as class
use Rattle.cheap_moves.specs.contracts.hopes.PathStartPartialEq.TheImpl as start
use Rattle.cheap_moves.specs.Drawing.{ArePassed, AreTailsFor, IsDrawn}
use Rattle.fare_ends.specs.Markets.{AreMarkets}
use Rattle.fare_law.specs.contracts.names.PlacePartialEq.TheImpl as place
use Rattle.fare_law.specs.Lists.{IsIn}
use Rattle.flight_paths.specs.declared.positions.Path.{Path}
use Rattle.cheap_moves.proofs.drawing.draw_all.Given as goal

abbrev pub invariant-loop-number : goal.invariant-loop-number
invariant-loop-number g l = record {
  markets : AreMarkets l.draw.search.now.book.now l.markets.kept.items;
  seen : List Path;
  tails : AreTailsFor l.draw.search.now.book.now l.draw.search.now.request.now l.draw.search.now.residual.now (g.B.ResidualBounds.bound l.draw.search.now.bounds.now) l.draw.search.now.limit l.draw.wanted seen l.draw.tails.now l.endings.numbers;
  passed : ArePassed l.draw.search.now.book.now l.draw.search.now.request.now l.draw.search.now.residual.now (g.B.ResidualBounds.bound l.draw.search.now.bounds.now) l.draw.search.now.limit l.draw.wanted seen (λ m. IsIn m (take l.number-index l.number-items)) seen;
  drawn : IsDrawn start.ghosts.eq place.ghosts.eq class.ghosts.eq l.draw.search.now.book.now l.draw.search.now.request.now l.draw.search.now.residual.now (g.B.ResidualBounds.bound l.draw.search.now.bounds.now) l.draw.search.now.limit l.draw.wanted seen l.drawn;
}
