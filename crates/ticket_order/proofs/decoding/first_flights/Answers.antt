use Rattle.std.proofs.Common.{refl}
use Rattle.ticket_order.proofs.MovesRead.{first_flights_are}
use Rattle.ticket_order.proofs.decoding.first_flights.Goals as goal

pub returns-clause-some : goal.returns-clause-some
returns-clause-some c =
    let e = (c.in_ok-flights_of.ensures c.in_ok-flights_of.field-0).0 refl in (
      e.1,
      first_flights_are c.args.numbers.now c.in_ok-flights_of.field-0 c.split_at.result.0.now c.split_at.result.1.now c.in-len1-up.len_at_least c.split_at.ensures.front c.split_at.ensures.back c.split_at.ensures.front_len e.0,
    )
