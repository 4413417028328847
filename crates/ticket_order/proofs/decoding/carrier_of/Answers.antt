use Rattle.ticket_order.proofs.NamesRead.{carrier_found}
use Rattle.ticket_order.proofs.decoding.carrier_of.Goals as goal

pub returns : goal.returns
returns c = carrier_found c.args.number _ _ c.in_ok-character_of.ensures c.in_ok-character_of-2.ensures
