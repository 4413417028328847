use Rattle.std.proofs.Common.{refl}
use Rattle.std.proofs.lemmas.Result.{IfOk-weaker}
use Rattle.residual_table.proofs.KeyFacts.{residual_is}
use Rattle.search_steps.proofs.ListsByNumber.{lists_stay}
use Rattle.search_steps.proofs.RowsByNumber.{live_state}
use Rattle.search_steps.proofs.numbered_case.NumberedCase.key.Goals as goal

pub invariant_of-self : goal.invariant_of-self
invariant_of-self c =
    let s = c.self.inside in
    (c.self.invariant.0, lists_stay s.case.request.now s.tables.kept.items s.tables.kept.items c.key.new.self s.lists _ c.key.ensures.grows (λ i x y. y) refl refl refl refl c.self.invariant.1)

pub returns-clause-live : goal.returns-clause-live
returns-clause-live c = IfOk-weaker c.key.result _ _ (λ k h. live_state c.key.new.self k c.args.residual.now h) c.key.ensures.stands

pub returns-clause-stands : goal.returns-clause-stands
returns-clause-stands c = IfOk-weaker c.key.result _ _ (λ k h. residual_is c.key.new.self k c.args.residual.now h) c.key.ensures.stands
