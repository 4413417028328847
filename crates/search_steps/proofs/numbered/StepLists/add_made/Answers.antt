use Rattle.std.proofs.Common.{◌≡◌, ◌∙◌, List, [], ◌∷◌, ◌++◌, length, ap, ap₂, arith, refl}
use Rattle.search_steps.specs.declared.numbered.Step.{Step}
use Rattle.search_steps.specs.declared.numbered.UnitSteps.{UnitSteps}
use Rattle.search_steps.proofs.Kept.{keeps_pushed}
use Rattle.search_steps.proofs.ListsByNumber.{steps_more, unit_more, unit_steps_last}
use Rattle.search_steps.proofs.numbered.StepLists.add_made.Goals as goal

pub returns-in_err-push-clause-right : goal.returns-in_err-push-clause-right
returns-in_err-push-clause-right c q ts h k =
    let room = c.have_room.ensures in
    let more = c.as_slice.result.now in
    let behind = c.in_ok-extend_from_slice.ensures.items ∙ ap (λ (ss : List Step). ss ++ more) room.steps in
    steps_more q ts c.args.self.now _ more room.numbers room.positions (c.in_err-push.ensures.items ∙ room.units) behind h

pub returns-clause-stays : goal.returns-clause-stays
returns-clause-stays c =
    let s : UnitSteps = record { place = c.args.key.place; slot = c.args.key.slot; begin = c.len-begin.result; end = c.len-end.result } in
    keeps_pushed c.args.self.now.units.items c.push.new.self.items s (c.in_ok-push.ensures.items ∙ ap (λ (us : List UnitSteps). us ++ s ∷ []) c.have_room.ensures.units)

pub returns-clause-right : goal.returns-clause-right
returns-clause-right c q ts h k =
    let l = c.args.self.now in
    let room = c.have_room.ensures in
    let s : UnitSteps = record { place = c.args.key.place; slot = c.args.key.slot; begin = c.len-begin.result; end = c.len-end.result } in
    let pushed = c.in_ok-push.ensures.items ∙ ap (λ (us : List UnitSteps). us ++ s ∷ []) room.units in
    let behind : c.extend_from_slice.new.self.items ≡ l.unit_steps.items ++ l.made.items = c.in_ok-extend_from_slice.ensures.items ∙ ap₂ (λ (xs ys : List Step). xs ++ ys) room.steps (c.as_slice.ensures.value ∙ room.made) in
    let first : c.len-begin.result ≡ length c.have_room.new.self.unit_steps.items = omega (arith, c.len-begin.ensures) in
    let last : c.len-end.result ≡ length c.extend_from_slice.new.self.items = omega (arith, c.len-end.ensures) in
    unit_more q ts l _ l.made.items s room.numbers room.positions behind pushed (first ∙ ap length room.steps) (last ∙ ap length behind) k h

pub returns-clause-found : goal.returns-clause-found
returns-clause-found c =
    let room = c.have_room.ensures in
    let s : UnitSteps = record { place = c.args.key.place; slot = c.args.key.slot; begin = c.len-begin.result; end = c.len-end.result } in
    let pushed = c.in_ok-push.ensures.items ∙ ap (λ (us : List UnitSteps). us ++ s ∷ []) room.units in
    let at : c.len-at.result ≡ length c.have_room.new.self.units.items = omega (arith, c.len-at.ensures) in
    unit_steps_last c.args.self.now.units.items c.push.new.self.items s c.args.key.place c.args.key.slot c.len-at.result pushed (at ∙ ap length room.units) refl refl c.requires
