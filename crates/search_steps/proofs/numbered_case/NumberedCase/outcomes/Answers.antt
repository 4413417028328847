use Rattle.search_steps.proofs.numbered_case.NumberedCase.outcomes.Goals as goal

pub invariant_of-self : goal.invariant_of-self
invariant_of-self c = (c.outcomes_of_key.ensures.tables, c.outcomes_of_key.ensures.right)
