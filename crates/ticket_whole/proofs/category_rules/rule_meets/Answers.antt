use Rattle.std.proofs.Common.{◌∙◌, sym}
use Rattle.fare_law.specs.Days.{IsCalendarDay}
use Rattle.ticket_whole.proofs.PartTold.{facts_first}
use Rattle.ticket_whole.proofs.category_rules.rule_meets.Goals as goal

pub category_holds-requires-clause-first : goal.category_holds-requires-clause-first
category_holds-requires-clause-first c = facts_first IsCalendarDay c.args.unit.now c.in-Some.facts (sym c.facts_of.ensures ∙ c.in-Some.is) c.requires.days
