use Rattle.std.proofs.Common.{List, ◌++◌, take}
use Rattle.cheap_moves.specs.contracts.hopes.PathClassPartialEq.TheImpl as class
use Rattle.cheap_moves.specs.contracts.hopes.PathStartPartialEq.TheImpl as start
use Rattle.cheap_moves.specs.Drawing.{AreNext, IsDrawn}
use Rattle.fare_ends.specs.Markets.{AreMarkets}
use Rattle.fare_law.specs.contracts.names.PlacePartialEq.TheImpl as place
use Rattle.flight_paths.specs.declared.positions.Path.{Path}
use Rattle.cheap_moves.proofs.drawing.draw_paths.Given as goal

abbrev pub invariant-loop-path : goal.invariant-loop-path
invariant-loop-path g l = record {
  markets : AreMarkets l.draw.search.now.book.now l.markets.kept.items;
  drawn : (seen : List Path) → AreNext l.draw.search.now.book.now l.draw.search.now.request.now l.draw.search.now.residual.now seen l.paths → IsDrawn start.ghosts.eq place.ghosts.eq class.ghosts.eq l.draw.search.now.book.now l.draw.search.now.request.now l.draw.search.now.residual.now (g.B.ResidualBounds.bound l.draw.search.now.bounds.now) l.draw.search.now.limit l.draw.wanted seen l.initial.drawn
      → IsDrawn start.ghosts.eq place.ghosts.eq class.ghosts.eq l.draw.search.now.book.now l.draw.search.now.request.now l.draw.search.now.residual.now (g.B.ResidualBounds.bound l.draw.search.now.bounds.now) l.draw.search.now.limit l.draw.wanted (seen ++ take l.path-index l.paths) l.drawn;
}
