use Rattle.std.proofs.Common.{List, ◌++◌, append-nil, subst, sym, take}
use Rattle.std.proofs.lemmas.List.{take_all}
use Rattle.cheap_moves.specs.contracts.hopes.PathClassPartialEq.TheImpl as class
use Rattle.cheap_moves.specs.contracts.hopes.PathStartPartialEq.TheImpl as start
use Rattle.cheap_moves.specs.Drawing.{IsDrawn}
use Rattle.cheap_moves.proofs.DrawnPaths.{next_of, seen_more}
use Rattle.fare_law.specs.contracts.names.PlacePartialEq.TheImpl as place
use Rattle.flight_paths.specs.declared.positions.Path.{Path}
use Rattle.cheap_moves.proofs.drawing.draw_paths.Goals as goal

pub loop-path-init : goal.loop-path-init
loop-path-init g c =
    let s = c.args.draw.now.search.now in
    record {
      markets = c.requires.markets;
      drawn = λ seen n d. subst (λ (ps : List Path). IsDrawn start.ghosts.eq place.ghosts.eq class.ghosts.eq s.book.now s.request.now s.residual.now (g.B.ResidualBounds.bound s.bounds.now) s.limit c.args.draw.now.wanted ps c.args.drawn.now) (sym (append-nil seen)) d;
    }

pub draw_path-requires-clause-drawn : goal.draw_path-requires-clause-drawn
draw_path-requires-clause-drawn g c =
    let s = c.args.draw.now.search.now in
    let paths = c.args.paths.now in
    let i = c.loop-path.path-index in
    let w = c.requires.drawn in
    (w.0 ++ take i paths, next_of s.book.now s.request.now s.residual.now w.0 paths w.1 i _ c.path-item.result c.loop-path-test.true c.path-item.is, c.loop-path.invariant.drawn w.0 w.1 w.2)

pub loop-path-preserved : goal.loop-path-preserved
loop-path-preserved g c =
    let s = c.args.draw.now.search.now in
    let paths = c.args.paths.now in
    let i = c.loop-path.path-index in
    record {
      markets = c.in_ok-draw_path.ensures.markets;
      drawn = λ seen n d. subst (λ (ps : List Path). IsDrawn start.ghosts.eq place.ghosts.eq class.ghosts.eq s.book.now s.request.now s.residual.now (g.B.ResidualBounds.bound s.bounds.now) s.limit c.args.draw.now.wanted ps c.draw_path.new.drawn) (seen_more s.book.now s.request.now s.residual.now seen paths n i _ c.path-item.result c.loop-path-test.true c.path-item.is)
          (c.in_ok-draw_path.ensures.drawn (seen ++ take i paths) (next_of s.book.now s.request.now s.residual.now seen paths n i _ c.path-item.result c.loop-path-test.true c.path-item.is) (c.loop-path.invariant.drawn seen n d));
    }

pub returns-clause-drawn : goal.returns-clause-drawn
returns-clause-drawn g c = λ seen n d.
    let s = c.args.draw.now.search.now in
    subst (λ (ps : List Path). IsDrawn start.ghosts.eq place.ghosts.eq class.ghosts.eq s.book.now s.request.now s.residual.now (g.B.ResidualBounds.bound s.bounds.now) s.limit c.args.draw.now.wanted (seen ++ ps) c.loop-path.drawn) (take_all c.loop-path.path-index c.args.paths.now c.loop-path-test.false) (c.loop-path.invariant.drawn seen n d)
