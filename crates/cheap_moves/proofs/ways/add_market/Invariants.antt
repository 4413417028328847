use Rattle.std.proofs.Common.{take}
use Rattle.cheap_moves.specs.Making.{Of}
use Rattle.cheap_moves.specs.Prospects.{IsProspectMove}
use Rattle.residual_keys.specs.Gathered.{Adds}
use Rattle.cheap_moves.proofs.ways.add_market.Given as goal

abbrev pub invariant-loop-prospect : goal.invariant-loop-prospect
invariant-loop-prospect g l = Adds (Of (IsProspectMove l.search.request.now l.search.residual.now (g.B.ResidualBounds.bound l.search.bounds.now) l.search.limit l.flown l.reverse l.market) (take l.prospect-index l.prospect-items)) l.initial.found l.found
