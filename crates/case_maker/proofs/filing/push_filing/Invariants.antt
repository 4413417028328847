use Rattle.std.proofs.Common.{◌≡◌}
use Rattle.case_maker.specs.Drawing.{going_on, each_below}
use Rattle.case_maker.specs.Filing.{way_fare, hub_fares}
use Rattle.case_maker.proofs.filing.push_filing.Given as goal

-- so many fares for the whole way stand there
abbrev pub invariant-loop-j : goal.invariant-loop-j
invariant-loop-j l = l.page ≡ going_on l.initial.page (each_below l.j way_fare)

-- the hubs so far have their fares
abbrev pub invariant-loop-i : goal.invariant-loop-i
invariant-loop-i l = l.page ≡ going_on l.initial.page (each_below l.i hub_fares)
