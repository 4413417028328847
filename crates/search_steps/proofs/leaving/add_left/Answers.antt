use Rattle.std.proofs.Common.{◌≡◌, ◌∙◌, true, false, sym, subst, ap, refl}
use Rattle.residual_keys.specs.Kept.{PartKept}
use Rattle.residual_keys.specs.Residuals.{PartAllows}
use Rattle.search_steps.specs.Numbers.{key_after}
use Rattle.search_steps.proofs.LeftByNumber.{left_none, pushed}
use Rattle.search_steps.proofs.leaving.add_left.Goals as goal

pub returns-then-not-may_leave : goal.returns-then-not-may_leave
returns-then-not-may_leave c = λ t r x us stands is units.
    let k = c.args.key in
    let s = c.args.step.now in
    left_none t k r x s c.args.new c.args.first c.args.second us stands is units
    (λ h. let z : c.may_leave.result ≡ true = c.may_leave.ensures.1 (subst PartAllows (sym c.part_after-part.ensures.value) h.0, h.1) in let n : c.may_leave.result ≡ false = c.if-not-may_leave.true in absurd (cc)) c.args.found.now.items

pub returns : goal.returns
returns c = λ t r x us stands is units.
    let k = c.args.key in
    let s = c.args.step.now in
    let is_part = c.part_after-part.ensures.value in
    let may = c.may_leave.ensures.0 c.if-not-may_leave.false in
    pushed t k r x s c.args.new c.args.first c.args.second us stands is units c.key_after.result s.price c.args.found.now.items c.push.new.self.items (subst PartAllows is_part may.0) (subst PartKept is_part c.part_after-part.ensures.kept) may.1
    (c.key_after.ensures ∙ ap (key_after s.after c.args.first c.args.second) is_part) refl c.in_ok-push.ensures.items
