use Rattle.std.proofs.Common.{◌≡◌, sym, ap, subst, arith}
use Rattle.flight_paths.specs.Positions.{IsPath}
use Rattle.residual_keys.proofs.StepTaken.{slice_known}
use Rattle.residual_keys.proofs.stepping.next_by.Goals as goal

pub returns-then-from-len-clause-none : goal.returns-then-from-len-clause-none
returns-then-from-len-clause-none c = λ next s.
    let lt = slice_known c.args.book.now c.args.request.now c.args.residual.now c.args.mv.now next s in
    let at : c.residual.inside.at.slice ≡ c.args.residual.now.at.slice = ap (λ x. x.at.slice) c.residual.view_is in
    absurd (omega (arith, lt, at, c.if-from-len.true, c.from.ensures, c.len.ensures.value))

pub step_over-requires-clause-path : goal.step_over-requires-clause-path
step_over-requires-clause-path c =
    let p = c.in-Some.ensures.some.1 c.args.book.now c.schedule_of.ensures in
    (p.0, subst (λ x. IsPath c.args.book.now c.args.request.now.slices x.at c.args.mv.now.flights p.0 c.in-Some.path.after) c.residual.view_is p.1)

pub returns-in-None-clause-none : goal.returns-in-None-clause-none
returns-in-None-clause-none c = λ next (price, s).
    c.in-None.ensures.none c.args.book.now c.schedule_of.ensures s.flights s.after (subst (λ x. IsPath c.args.book.now c.args.request.now.slices x.at c.args.mv.now.flights s.flights s.after) (sym c.residual.view_is) s.moves.path)
