use Rattle.std.proofs.Common.{◌-◌, arith}
use Rattle.std.proofs.lemmas.Bool.Decides.{nat_tests}
use Rattle.ticket_order.proofs.TicketMoves.{slot_told}
use Rattle.ticket_order.proofs.roles.slot_number.Goals as goal

pub returns : goal.returns
returns c = slot_told c.args.before.now c.args.unit c.args.after.now c.loop-smaller.slot (c.loop-smaller.smaller - 1) (grind (arith, nat_tests)) c.loop-smaller.invariant.0 (omega arith)
