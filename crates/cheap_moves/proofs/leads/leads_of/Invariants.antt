use Rattle.std.proofs.Common.{take}
use Rattle.cheap_moves.specs.Leads.{HasEntry}
use Rattle.fare_law.specs.Lists.{IsIn}
use Rattle.outlines.specs.declared.outline.Entry.{Entry}
use Rattle.cheap_moves.proofs.leads.leads_of.Given as goal

abbrev pub invariant-loop-entry : goal.invariant-loop-entry
invariant-loop-entry g l = (e : Entry) → IsIn e (take l.entry-index l.table) → HasEntry l.search.request.now l.search.residual.now (g.B.ResidualBounds.bound l.search.bounds.now) l.leads e
