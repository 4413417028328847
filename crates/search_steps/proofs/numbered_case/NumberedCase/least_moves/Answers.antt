use Rattle.std.proofs.Common.{◌≡◌, ◌↔◌, ◌∙◌, Some, map, refl, sym, subst, IfOk}
use Rattle.fare_law.specs.Lists.{Each}
use Rattle.flight_paths.specs.contracts.positions.PositionPartialEq.TheImpl as position
use Rattle.open_unit.specs.contracts.units.OpenUnitPartialEq.TheImpl as unit
use Rattle.residual_keys.specs.Kept.{IsResidual}
use Rattle.residual_keys.specs.Residuals.{State}
use Rattle.residual_table.specs.declared.key.ResidualKey.{ResidualKey}
use Rattle.residual_table.specs.Found.{key_at}
use Rattle.residual_table.specs.Keys.{IsLive, StandsFor, residual_at}
use Rattle.search_steps.specs.LeastMoves.{AreLeastMoves, BoundBy, Counts, HasBound, HasRest, LeaveLive, least_as}
use Rattle.search_steps.specs.Numbers.{Numbered}
use Rattle.search_steps.proofs.KeyedBounds.{bound_at, if_ok_both, keyed_least, rest_had}
use Rattle.search_steps.proofs.ListsByNumber.{grows_same, lists_stay}
use Rattle.law_lemmas.proofs.EachOne.{each_weaker}
use Rattle.search_steps.proofs.numbered_case.NumberedCase.least_moves.Goals as goal

pub keyed_moves-requires : goal.keyed_moves-requires
keyed_moves-requires g c =
    let s = c.self.inside in
    let t = s.lists.numbers in
    let bound = bound_at t c.keeps.ensures (key_at position.ghosts.eq unit.ghosts.eq t) (λ k x r. c.keys_found.ensures t k x c.keeps.ensures r) (g.B.Bounds.bound c.args.bounds.now) in
    subst (λ ms. Each (HasRest bound) ms) (sym c.as_slice.ensures)
    (each_weaker (Counts s.case.book.now s.case.request.now (HasBound bound) c.args.residual.now) (HasRest bound) (rest_had s.case.book.now s.case.request.now c.args.residual.now bound) c.in_ok-found.found c.in_ok-found.ensures.least.each)

pub invariant_of-self : goal.invariant_of-self
invariant_of-self g c =
    let s = c.self.inside in
    (c.least_by.ensures.right, lists_stay s.case.request.now s.tables.kept.items c.least_by.new.tables.kept.items s.lists.numbers s.lists s.lists (grows_same s.lists.numbers) c.least_by.ensures.stays refl refl refl refl c.self.invariant.1)

pub invariant_of-self-2 : goal.invariant_of-self-2
invariant_of-self-2 g c =
    let s = c.self.inside in
    (c.in_ok-found.ensures.right, lists_stay s.case.request.now s.tables.kept.items c.least_by.new.tables.kept.items s.lists.numbers s.lists s.lists (grows_same s.lists.numbers) c.in_ok-found.ensures.stays refl refl refl refl c.self.invariant.1)

pub returns-clause-least : goal.returns-clause-least
returns-clause-least g c =
    let s = c.self.inside in
    let t = s.lists.numbers in
    let find = key_at position.ghosts.eq unit.ghosts.eq t in
    let told : (k : ResidualKey) (x : State) → IsResidual x → (find x ≡ Some k) ↔ StandsFor t k x = λ k x r. c.keys_found.ensures t k x c.keeps.ensures r in
    let by_key = g.B.Bounds.bound c.args.bounds.now in
    let x = c.args.residual.now in
    subst (λ (n : Numbered). IfOk c.keyed_moves.result (λ ms. AreLeastMoves n.book.now n.request.now (BoundBy (IsLive n.numbers) (residual_at n.numbers) by_key) x c.args.wanted (map (least_as (residual_at n.numbers)) ms))) c.self.view_is
    (if_ok_both c.keyed_moves.result _ (LeaveLive _) _
    (λ ms same live. keyed_least t c.keeps.ensures find told by_key s.case.book.now s.case.request.now c.args.residual.now c.args.wanted c.in_ok-found.found ms c.in_ok-found.ensures.least (same ∙ c.as_slice.ensures) live)
    c.keyed_moves.ensures.same c.keyed_moves.ensures.live)
