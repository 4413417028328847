use Rattle.search_steps.proofs.ListedSteps.{listed_stay}
use Rattle.search_steps.proofs.listing.add_all.Goals as goal

pub add_from-requires-clause-table : goal.add_from-requires-clause-table
add_from-requires-clause-table c = listed_stay c.args.numbers.now c.loop-at.numbers c.args.table.now c.loop-at.invariant.grows c.requires.table
