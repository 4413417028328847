use Rattle.search_steps.proofs.Bridge.{found_is, short_is}
use Rattle.search_steps.proofs.laws.reached_states_are_reached.Goals as goal

pub returns-clause-reached : goal.returns-clause-reached
returns-clause-reached c = found_is

pub returns-clause-short : goal.returns-clause-short
returns-clause-short c = λ b q root is six low. short_is b q root is six (c.runs_are_short.ensures.raised b q) (c.runs_are_short.ensures.fits b q) low
