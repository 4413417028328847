use Rattle.ticket_whole.proofs.component_flights.row_of.Goals as goal

pub returns-clause-class : goal.returns-clause-class
returns-clause-class c = (c.limits.ensures.fares _ _ c.in_ok-row.ensures.0).1.class

pub returns-clause-rule : goal.returns-clause-rule
returns-clause-rule c = c.limits.ensures.rules _ _ _ c.in_ok-row.ensures.1
