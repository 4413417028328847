use Rattle.std.proofs.Common.{arith, refl}
use Rattle.search_steps.proofs.ListsByNumber.{grows_same, position_more, steps_last}
use Rattle.search_steps.proofs.numbered.StepLists.find.Goals as goal

pub returns-clause-right : goal.returns-clause-right
returns-clause-right c =
    let ts = c.made_position.new.tables.kept.items in
    let l = c.made_position.new.self in
    position_more c.args.case.now.request.now ts ts l.numbers l _ c.in_ok-steps.steps (grows_same l.numbers) (λ i x y. y) refl c.in_ok-push.ensures.items refl refl c.in_ok-steps.ensures.steps c.made_position.ensures.right

pub returns-clause-found : goal.returns-clause-found
returns-clause-found c = steps_last c.made_position.new.self.positions.items c.push.new.self.items c.in_ok-steps.steps c.args.position c.len-at.result c.in_ok-push.ensures.items (omega (arith, c.len-at.ensures)) c.in_ok-steps.ensures.position
