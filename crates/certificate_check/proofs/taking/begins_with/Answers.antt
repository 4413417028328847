use Rattle.certificate_check.proofs.Begins.{begins_told}
use Rattle.certificate_check.proofs.taking.begins_with.Goals as goal

pub returns-then-front-moves : goal.returns-then-front-moves
returns-then-front-moves c = begins_told c.args.answer.now c.as_slice-moves.result.now c.args.front.now c.are_same.result c.as_slice-moves.ensures.items c.if-front-moves.true c.are_same.ensures
