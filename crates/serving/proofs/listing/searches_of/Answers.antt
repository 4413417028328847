use Rattle.std.proofs.Common.{refl}
use Rattle.serving.proofs.SearchSteps.{search_more, searches_all}
use Rattle.serving.proofs.listing.searches_of.Goals as goal

pub loop-at-preserved : goal.loop-at-preserved
loop-at-preserved c = search_more c.args.lines.now c.loop-at.at _ _ c.loop-at.searches c.push_search.new.searches _ c.loop-at-test.true refl c.in_ok-push_search.ensures c.loop-at.invariant

pub returns : goal.returns
returns c = searches_all c.args.lines.now c.loop-at.at c.loop-at.searches _ c.loop-at-test.false c.loop-at.invariant
