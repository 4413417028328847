use Rattle.std.proofs.Common.{◌≡◌}
use Rattle.case_maker.specs.Drawing.{going_on, each_below}
use Rattle.case_maker.specs.Tables.{hub_flights}
use Rattle.case_maker.proofs.tables.push_flights.Given as goal

-- the hubs so far have their rows
abbrev pub invariant-loop-i : goal.invariant-loop-i
invariant-loop-i l = l.page ≡ going_on l.initial.page (each_below l.i hub_flights)
