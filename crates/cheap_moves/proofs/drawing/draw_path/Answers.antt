use Rattle.std.proofs.Common.{[], ◌∷◌, ◌++◌}
use Rattle.cheap_moves.specs.contracts.hopes.PathClassPartialEq.TheImpl as class
use Rattle.cheap_moves.specs.contracts.hopes.PathStartPartialEq.TheImpl as start
use Rattle.cheap_moves.specs.LeastMoves.{CountsOn}
use Rattle.cheap_moves.proofs.DrawnPaths.{hopes_now}
use Rattle.cheap_moves.proofs.Keeping.{kept_codes, path_kept}
use Rattle.fare_law.specs.contracts.names.PlacePartialEq.TheImpl as place
use Rattle.law_lemmas.proofs.Options.{on_ok}
use Rattle.cheap_moves.proofs.drawing.draw_path.Goals as goal

pub add_path-requires-clause-hopes : goal.add_path-requires-clause-hopes
add_path-requires-clause-hopes g c =
    let s = c.args.draw.now.search.now in
    let d = c.args.drawn.now in
    hopes_now start.ghosts.eq place.ghosts.eq class.ghosts.eq s.book.now s.request.now s.residual.now (g.B.ResidualBounds.bound s.bounds.now) s.limit c.args.draw.now.hopes.now c.requires.hopes d.limit d.sunk c.hopes_within-hopes.result.now c.requires.drawn.2.hopes
    c.hopes_within-hopes.ensures.some c.hopes_within-hopes.ensures.none

pub add_path-requires-clause-path : goal.add_path-requires-clause-path
add_path-requires-clause-path g c = c.requires.drawn.1.own

pub sink-requires-clause-codes : goal.sink-requires-clause-codes
sink-requires-clause-codes g c =
    let s = c.args.draw.now.search.now in
    let w = c.requires.drawn in
    let d = c.args.drawn.now in
    let bound = g.B.ResidualBounds.bound s.bounds.now in
    kept_codes s.book.now s.request.now s.residual.now c.book_limits.ensures.fares.keys (CountsOn s.book.now s.request.now s.residual.now bound s.limit (w.0 ++ c.args.path.now ∷ [])) (λ m k. k.0.2.0.0) c.codes_tell.ensures.parts s.limit c.args.draw.now.wanted c.add_counted.new.kept.items d.limit
    (path_kept s.book.now s.request.now s.residual.now bound s.limit c.args.draw.now.wanted w.0 c.args.path.now w.1 d.limit d.kept.items w.2.kept c.new-found.result c.add_path.new.found c.as_slice.result.now c.add_counted.new.kept.items c.new-found.ensures c.in_ok-add_path.ensures.moves c.as_slice.ensures c.in_ok-add_counted.ensures)

pub returns-clause-drawn : goal.returns-clause-drawn
returns-clause-drawn g c =
    let s = c.args.draw.now.search.now in
    let d = c.args.drawn.now in
    let bound = g.B.ResidualBounds.bound s.bounds.now in
    on_ok c.sink.result _ _ (λ sunk seen n old. sunk (seen ++ c.args.path.now ∷ []) (record {
      kept = path_kept s.book.now s.request.now s.residual.now bound s.limit c.args.draw.now.wanted seen c.args.path.now n d.limit d.kept.items old.kept c.new-found.result c.add_path.new.found c.as_slice.result.now c.add_counted.new.kept.items c.new-found.ensures c.in_ok-add_path.ensures.moves c.as_slice.ensures c.in_ok-add_counted.ensures;
      hopes = old.hopes;
    })) c.sink.ensures
