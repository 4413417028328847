use Rattle.std.proofs.Common.{◌∙◌, sym, subst}
use Rattle.fare_law.specs.Days.{IsCalendarDay}
use Rattle.fare_law.specs.Lists.{Each}
use Rattle.ticket_whole.specs.declared.stretch.Stretch.{Stretch}
use Rattle.ticket_whole.proofs.KnownGathering.{each_filter}
use Rattle.ticket_whole.proofs.unit_rules.label_meets.Goals as goal

pub stretches_meet-requires-clause-days : goal.stretches_meet-requires-clause-days
stretches_meet-requires-clause-days c =
    subst (Each (λ (s : Stretch). IsCalendarDay s.first_day)) (sym (c.as_slice.ensures.items ∙ c.unit_of-unit.ensures)) (each_filter _ _ c.args.stretches.now c.requires.days)
