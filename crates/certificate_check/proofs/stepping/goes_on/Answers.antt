use Rattle.std.proofs.Common.{IfNone, IfSome, sym, subst}
use Rattle.certificate_check.proofs.Onwards.{none_told, on_none, on_some}
use Rattle.residual_keys.specs.declared.residual.Next.TheVariants.{At}
use Rattle.residual_keys.specs.Residuals.{State}
use Rattle.residual_keys.specs.Steps.{StepsTo}
use Rattle.certificate_check.proofs.stepping.goes_on.Goals as goal

pub returns-in_err-next-clause-none : goal.returns-in_err-next-clause-none
returns-in_err-next-clause-none c = none_told c.from_residual.result ((after : State) → StepsTo c.args.book.now c.args.request.now c.args.residual.now c.args.mv.now (At after) → ⊥) (λ after h. c.in_err-next.ensures.none (At after) h)

pub returns-clause-some : goal.returns-clause-some
returns-clause-some c =
    let b = c.args.book.now in
    let q = c.args.request.now in
    let x = c.args.residual.now in
    let m = c.args.mv.now in
    subst (λ o. IfSome o (λ after. StepsTo b q x m (At after))) (sym c.residual_in.ensures) (on_some b q x m c.in_ok-next.next c.in_ok-next.ensures.some)

pub returns-clause-none : goal.returns-clause-none
returns-clause-none c =
    let b = c.args.book.now in
    let q = c.args.request.now in
    let x = c.args.residual.now in
    let m = c.args.mv.now in
    subst (λ o. IfNone o ((after : State) → StepsTo b q x m (At after) → ⊥)) (sym c.residual_in.ensures) (on_none b q x m c.in_ok-next.next c.in_ok-next.ensures.some)
