use Rattle.std.proofs.Common.{subst, arith}
use Rattle.certificate_check.specs.Drawings.{IsEnough}
use Rattle.certificate_check.proofs.Drawn.{drawing_known, drawing_last, drawings_more, drawn_under}
use Rattle.certificate_check.proofs.KnownBounds.{bounds_are}
use Rattle.residual_table.specs.contracts.key.ResidualKeyPartialEq.TheImpl as key
use Rattle.search_steps.specs.Keys.{live, state}
use Rattle.certificate_check.proofs.drawings.Drawings.find.Goals as goal

pub returns-in-Some-clause-found : goal.returns-in-Some-clause-found
returns-in-Some-clause-found c =
    drawing_known c.args.steps.now c.args.table.now.rows.now key.ghosts.eq c.keys_tell.ensures c.args.key c.requires.live c.args.wanted c.args.self.now.kept.items c.in-Some.place c.requires.drawings
    (subst (λ ds. IsEnough key.ghosts.eq c.args.key c.args.wanted ds c.in-Some.place) c.as_slice.ensures.value c.in-Some.ensures)

pub returns-clause-drawings : goal.returns-clause-drawings
returns-clause-drawings c =
    let s = c.args.steps.now in
    let t = c.least_moves.new.self in
    let rows = c.args.table.now.rows.now in
    let wanted = c.more_than-wanted.result in
    let moves = c.in_ok-moves.moves in
    let bounds = bounds_are (live s) (state s) _ c.keys_tell.ensures c.args.table.now.bounds rows c.requires.table.live c.requires.table.same c.requires.differ in
    let drawn = drawn_under s.case.book.now s.case.request.now rows _ bounds (state t) (state s c.args.key) wanted moves c.in_ok-moves.ensures.least in
    drawings_more s t rows (record { case = c.in_ok-moves.ensures.case; keeps = c.in_ok-moves.ensures.keeps }) c.args.self.now.kept.items c.push.new.self.items (record { key = c.args.key; wanted = wanted; moves = moves })
    c.in_ok-push.ensures.items c.requires.drawings c.requires.live drawn

pub returns-clause-found : goal.returns-clause-found
returns-clause-found c =
    let s = c.args.steps.now in
    let t = c.least_moves.new.self in
    let rows = c.args.table.now.rows.now in
    let wanted = c.more_than-wanted.result in
    let moves = c.in_ok-moves.moves in
    let bounds = bounds_are (live s) (state s) _ c.keys_tell.ensures c.args.table.now.bounds rows c.requires.table.live c.requires.table.same c.requires.differ in
    let drawn = drawn_under s.case.book.now s.case.request.now rows _ bounds (state t) (state s c.args.key) wanted moves c.in_ok-moves.ensures.least in
    drawing_last s.case.book.now s.case.request.now rows (state s c.args.key) c.args.wanted c.args.self.now.kept.items c.push.new.self.items (record { key = c.args.key; wanted = wanted; moves = moves }) c.len-place.result
    c.in_ok-push.ensures.items (omega (arith, c.len-place.ensures)) c.more_than-wanted.ensures drawn
