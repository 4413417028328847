use Rattle.std.proofs.Common.{◌≡◌, ◌≤◌, List, ap, length, map, sym, subst, ◌∙◌, arith}
use Rattle.std.proofs.lemmas.Result.{IfOk-weaker}
use Rattle.fare_law.specs.declared.requests.Request.{Request}
use Rattle.residual_keys.specs.Residuals.{State}
use Rattle.residual_table.specs.declared.key.ResidualKey.{ResidualKey}
use Rattle.residual_table.specs.Keys.{IsLive, residual_at}
use Rattle.search_steps.specs.declared.least.LeastMove.{LeastMove}
use Rattle.search_steps.specs.LeastMoves.{AreLeastMoves, BoundBy, LeaveLive, least_as}
use Rattle.search_steps.specs.Numbers.{Numbered}
use Rattle.search_steps.proofs.Counting.{none_past}
use Rattle.search_steps.proofs.RowsByNumber.{said}
use Rattle.search_steps.proofs.steps.SearchSteps.least_moves.Goals as goal

pub returns-then-from-len-clause-least : goal.returns-then-from-len-clause-least
returns-then-from-len-clause-least g c =
    let s = c.args.self.now.case in
    let x = residual_at s.numbers c.args.key in
    let Bound = BoundBy (IsLive s.numbers) (residual_at s.numbers) (g.B.Bounds.bound c.args.bounds.now) in
    let at : c.residual.inside.at.slice ≡ x.at.slice = ap (λ (y : State). y.at.slice) (c.residual.view_is ∙ c.residual-residual.ensures.state) in
    let slices : length c.case.result.request.now.slices ≡ length s.request.now.slices = ap (λ (q : Request). length q.slices) c.case.ensures.request in
    let past : length s.request.now.slices ≤ x.at.slice = omega (arith, at, slices, c.if-from-len.true, c.from.ensures, c.len.ensures.value) in
    subst (λ (ms : List (LeastMove ResidualKey)). AreLeastMoves s.book.now s.request.now Bound x c.args.wanted (map (least_as (residual_at s.numbers)) ms)) (sym c.new.ensures) (none_past s.book.now s.request.now x Bound c.args.wanted past)

pub returns-clause-least : goal.returns-clause-least
returns-clause-least g c =
    let s = c.args.self.now.case in
    let Bound = BoundBy (IsLive s.numbers) (residual_at s.numbers) (g.B.Bounds.bound c.args.bounds.now) in
    IfOk-weaker c.least_moves.result _ _
    (λ ms h. said (λ (x : State) (n : Numbered). AreLeastMoves s.book.now s.request.now Bound x c.args.wanted (map (least_as (residual_at n.numbers)) ms)) _ _ s c.least_moves.new.self c.residual-residual.ensures.state (sym c.least_moves.ensures.same) h) c.least_moves.ensures.least

pub returns-clause-live : goal.returns-clause-live
returns-clause-live g c = IfOk-weaker c.least_moves.result _ _ (λ ms h. subst (λ (n : Numbered). LeaveLive (IsLive n.numbers) ms) (sym c.least_moves.ensures.same) h) c.least_moves.ensures.live
