use Rattle.component_table.proofs.ClassFacts.{sliced_rest}
use Rattle.component_table.proofs.crossing.tails_after.Goals as goal

pub returns-clause-all : goal.returns-clause-all
returns-clause-all c = sliced_rest c.args.bucket.now c.args.slice.now c.args.class.now c.requires.paths c.requires.class c.before_all-from.result c.tails-tails.result.now c.tails-tails.ensures c.before_all-from.ensures.before
