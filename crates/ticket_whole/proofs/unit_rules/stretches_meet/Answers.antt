use Rattle.std.proofs.Common.{◌∙◌, sym}
use Rattle.fare_law.specs.Days.{IsCalendarDay}
use Rattle.ticket_whole.proofs.PartTold.{facts_first}
use Rattle.ticket_whole.proofs.unit_rules.stretches_meet.Goals as goal

pub facts_meet-requires-clause-first : goal.facts_meet-requires-clause-first
facts_meet-requires-clause-first c = facts_first IsCalendarDay c.args.unit.now c.in-Some.facts (sym c.facts_of.ensures ∙ c.in-Some.is) c.requires.days
