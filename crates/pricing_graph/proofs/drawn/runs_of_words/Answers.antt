use Rattle.std.proofs.Common.{◌+◌, take, sym, subst}
use Rattle.fare_law.specs.Lists.{Matched}
use Rattle.pricing_graph.specs.DrawnRuns.{IsReadAs}
use Rattle.pricing_graph.proofs.Matching.{matched_more}
use Rattle.pricing_graph.proofs.drawn.runs_of_words.Goals as goal

pub loop-derivation-preserved : goal.loop-derivation-preserved
loop-derivation-preserved c =
    subst (λ runs. Matched IsReadAs (take (c.loop-derivation.derivation-index + 1) c.args.found.now) runs) (sym c.in_ok-push.ensures.items)
    (matched_more IsReadAs c.args.found.now c.loop-derivation.runs c.loop-derivation.derivation-index c.derivation-item.result c.run_of_word.result c.loop-derivation-test.true c.derivation-item.is c.loop-derivation.invariant c.run_of_word.ensures)
