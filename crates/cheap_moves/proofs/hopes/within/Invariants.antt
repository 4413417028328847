use Rattle.std.proofs.Common.{take}
use Rattle.cheap_moves.specs.contracts.hopes.PathClassPartialEq.TheImpl as class
use Rattle.cheap_moves.specs.contracts.hopes.PathStartPartialEq.TheImpl as start
use Rattle.cheap_moves.specs.Hopes.{HasHopes}
use Rattle.fare_law.specs.contracts.names.PlacePartialEq.TheImpl as place
use Rattle.cheap_moves.proofs.hopes.within.Given as goal

abbrev pub invariant-loop-lead : goal.invariant-loop-lead
invariant-loop-lead l = HasHopes start.ghosts.eq place.ghosts.eq class.ghosts.eq l.limit (take l.lead-index l.leads) l.hopes
