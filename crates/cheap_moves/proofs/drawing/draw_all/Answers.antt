use Rattle.std.proofs.Common.{List, [], ◌++◌, ◌+◌, refl, subst, sym, take, inl}
use Rattle.std.proofs.lemmas.List.{take_all}
use Rattle.cheap_moves.specs.contracts.hopes.PathClassPartialEq.TheImpl as class
use Rattle.cheap_moves.specs.contracts.hopes.PathStartPartialEq.TheImpl as start
use Rattle.cheap_moves.specs.declared.least.CountedMove.{CountedMove}
use Rattle.cheap_moves.specs.Drawing.{AreNext, ArePassed, IsDrawn}
use Rattle.cheap_moves.specs.Hopes.{marked}
use Rattle.cheap_moves.specs.LeastMoves.{IsSooner}
use Rattle.cheap_moves.proofs.Keeping.{none_kept}
use Rattle.cheap_moves.proofs.Passing.{departs_by, kept_of_all, passed_more, passed_next, passed_none, range_by, tails_more}
use Rattle.cheap_moves.proofs.Sooner.{code_of}
use Rattle.fare_law.specs.contracts.names.PlacePartialEq.TheImpl as place
use Rattle.fare_law.specs.Lists.{IsIn}
use Rattle.flight_paths.specs.declared.positions.Path.{Path}
use Rattle.residual_keys.specs.Residuals.{State}
use Rattle.schedule_book.specs.Departures.{AreDepartures}
use Rattle.law_lemmas.proofs.Members.{read_in}
use Rattle.cheap_moves.proofs.drawing.draw_all.Goals as goal

pub loop-number-init : goal.loop-number-init
loop-number-init g c =
    let s = c.args.draw.now.search.now in
    let h = c.args.draw.now.hopes.now in
    let bound = g.B.ResidualBounds.bound s.bounds.now in
    record {
      markets = c.requires.markets;
      seen = [];
      tails = record { at_end = marked place.ghosts.eq h.ends; ending = c.in_ok-endings.ensures s.request.now.slices (s.residual.now.at.slice + 1) c.requires.tails; moves = λ m k w. inl (c.requires.hopes.of_ends m k w) };
      passed = passed_none s.book.now s.request.now s.residual.now bound s.limit c.args.draw.now.wanted;
      drawn = record { kept = none_kept s.book.now s.request.now s.residual.now bound s.limit c.args.draw.now.wanted c.new.result.items c.new.ensures.items; hopes = refl };
    }

pub list_paths-requires-clause-range : goal.list_paths-requires-clause-range
list_paths-requires-clause-range g c =
    let items = c.from_place-number-items.result.now in
    let is = (c.from_place-number-items.ensures.are _).0 (read_in items c.loop-number.number-index _ _ c.loop-number-test.true refl) in
    range_by _ _ c.residual.view_is _ (is.0, is.1)

pub list_paths-requires-clause-departs : goal.list_paths-requires-clause-departs
list_paths-requires-clause-departs g c =
    let items = c.from_place-number-items.result.now in
    let is = (c.from_place-number-items.ensures.are _).0 (read_in items c.loop-number.number-index _ _ c.loop-number-test.true refl) in
    departs_by _ _ c.residual.view_is c.schedule_of.result.now.flights c.args.draw.now.search.now.book.now.timetable.flights c.schedule_of.ensures.flights _ is.2

pub list_paths-requires-clause-drawn : goal.list_paths-requires-clause-drawn
list_paths-requires-clause-drawn g c = let v = c.loop-number.invariant in (v.seen, v.drawn, v.tails)

pub draw_paths-requires-clause-drawn : goal.draw_paths-requires-clause-drawn
draw_paths-requires-clause-drawn g c =
    let s = c.args.draw.now.search.now in
    let bound = g.B.ResidualBounds.bound s.bounds.now in
    let items = c.from_place-number-items.result.now in
    let i = c.loop-number.number-index in
    let v = c.loop-number.invariant in
    let batch = c.in_ok-paths.ensures.paths v.seen v.drawn v.tails in
    let more = passed_more s.book.now s.request.now s.residual.now bound s.limit c.args.draw.now.wanted items i _ _ v.seen c.in_ok-paths.paths c.from_place-number-items.ensures.ascending c.loop-number-test.true refl v.passed batch in
    (v.seen, subst (AreNext s.book.now s.request.now s.residual.now v.seen) (sym c.as_slice.ensures) (passed_next s.book.now s.request.now s.residual.now bound s.limit c.args.draw.now.wanted v.seen c.in_ok-paths.paths (λ m. IsIn m (take (i + 1) items)) more), v.drawn)

pub loop-number-preserved : goal.loop-number-preserved
loop-number-preserved g c =
    let s = c.args.draw.now.search.now in
    let bound = g.B.ResidualBounds.bound s.bounds.now in
    let items = c.from_place-number-items.result.now in
    let i = c.loop-number.number-index in
    let v = c.loop-number.invariant in
    let batch = c.in_ok-paths.ensures.paths v.seen v.drawn v.tails in
    let more = passed_more s.book.now s.request.now s.residual.now bound s.limit c.args.draw.now.wanted items i _ _ v.seen c.in_ok-paths.paths c.from_place-number-items.ensures.ascending c.loop-number-test.true refl v.passed batch in
    let next = passed_next s.book.now s.request.now s.residual.now bound s.limit c.args.draw.now.wanted v.seen c.in_ok-paths.paths (λ m. IsIn m (take (i + 1) items)) more in
    record {
      markets = c.in_ok-draw_paths.ensures.markets;
      seen = v.seen ++ c.in_ok-paths.paths;
      tails = tails_more s.book.now s.request.now s.residual.now bound s.limit c.args.draw.now.wanted v.seen c.in_ok-paths.paths c.args.draw.now.tails.now c.list_paths.new.endings.numbers (c.in_ok-paths.ensures.tails v.seen v.drawn v.tails);
      passed = more;
      drawn = subst (λ (ps : List Path). IsDrawn start.ghosts.eq place.ghosts.eq class.ghosts.eq s.book.now s.request.now s.residual.now bound s.limit c.args.draw.now.wanted (v.seen ++ ps) c.draw_paths.new.drawn) c.as_slice.ensures
          (c.in_ok-draw_paths.ensures.drawn v.seen (subst (AreNext s.book.now s.request.now s.residual.now v.seen) (sym c.as_slice.ensures) next) v.drawn);
    }

pub returns-clause-drawn : goal.returns-clause-drawn
returns-clause-drawn g c =
    let s = c.args.draw.now.search.now in
    let bound = g.B.ResidualBounds.bound s.bounds.now in
    let items = c.from_place-number-items.result.now in
    let v = c.loop-number.invariant in
    let flights = c.schedule_of.result.now.flights in
    let trans : (x y z : CountedMove) → IsSooner x y → IsSooner y z → IsSooner x z = λ x y z h k. c.order_laws.ensures.before_trans x.total y.total z.total (code_of x) (code_of y) (code_of z) h k in
    let departs = subst (λ (x : State). AreDepartures flights x.at.place x.at.lo x.at.hi items) c.residual.view_is c.from_place-number-items.ensures in
    let all = subst (λ ns. ArePassed s.book.now s.request.now s.residual.now bound s.limit c.args.draw.now.wanted v.seen (λ m. IsIn m ns) v.seen) (take_all c.loop-number.number-index items c.loop-number-test.false) v.passed in
    kept_of_all s.book.now s.request.now s.residual.now bound s.limit c.args.draw.now.wanted trans flights items v.seen c.loop-number.drawn.kept.items c.loop-number.drawn.limit c.schedule_of.ensures.flights departs all v.drawn.kept
