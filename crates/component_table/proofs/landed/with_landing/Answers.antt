use Rattle.std.proofs.Common.{arith}
use Rattle.component_table.proofs.SoughtFacts.{read_low, read_taken}
use Rattle.component_table.proofs.landed.with_landing.Goals as goal

pub overflow_add-share : goal.overflow_add-share
overflow_add-share c =
    let low = read_low c.args.origin.now c.args.class.now c.args.sought.now c.requires.sought c.args.at c.requires.place.0 _ c.requires.place.1 c.in-Some.share c.in-Some-charges_at.charges c.in-Some.ensures (c.in-Some-charges_at.ensures.says c.requires.place.0 c.requires.place.1) in
    omega (arith, low)

pub returns-in-Some-charges_at-clause-least : goal.returns-in-Some-charges_at-clause-least
returns-in-Some-charges_at-clause-least c = λ l got.
    read_taken c.args.origin.now c.args.class.now c.args.sought.now c.requires.sought c.args.at l _ got c.in-Some.share c.in-Some-charges_at.charges c.in-Some.ensures (c.in-Some-charges_at.ensures.says l got) c.args.least c.lesser.result c.lesser.ensures.below c.lesser.ensures.least c.lesser.ensures.one
