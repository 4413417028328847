use Rattle.std.proofs.Common.{◌-◌, length, arith}
use Rattle.cheap_moves.proofs.Hoped.{last_known, none_known}
use Rattle.cheap_moves.proofs.hopes.last_flight.Goals as goal

pub returns-in-len1-up-clause-some : goal.returns-in-len1-up-clause-some
returns-in-len1-up-clause-some c = last_known c.args.all.now c.args.numbers.now c.flight_of.result c.in-len1-up.len_at_least c.flight_of.ensures

pub returns-in-len1-up-clause-none : goal.returns-in-len1-up-clause-none
returns-in-len1-up-clause-none c =
    let some = c.in-len1-up.len_at_least in
    none_known c.args.all.now c.args.numbers.now (length c.args.numbers.now - 1) c.flight_of.result (omega (arith, some)) c.flight_of.ensures
