use Rattle.outline_tables.proofs.flight_tables.add_levels.Goals as goal
use Rattle.std.proofs.Common.{subst, sym}
use Rattle.outline_tables.specs.FlightTables.{KeepsLevels}
use Rattle.outline_tables.proofs.TableFacts.{level_added, levels_on}

pub loop-alloc-preserved : goal.loop-alloc-preserved
loop-alloc-preserved c =
    let old = c.loop-alloc.levels.items in
    levels_on c.args.levels.now.items old c.push.new.self.items c.loop-alloc.invariant (subst (KeepsLevels old) (sym c.in_ok-push.ensures.items) (level_added old c.new.result c.new.ensures.items))

pub returns-in_err-push-clause-keeps : goal.returns-in_err-push-clause-keeps
returns-in_err-push-clause-keeps c = subst (KeepsLevels c.args.levels.now.items) (sym c.in_err-push.ensures.items) c.loop-alloc.invariant
