use Rattle.std.proofs.Common.{◌≡◌, ◌++◌, codes, decimal, rules}
use Rattle.lowfare.proofs.VerdictMakes.{has_price, tells_lawful}
use Rattle.lowfare.proofs.verdicts.lawful.Goals as goal

-- a lawful ticket has a price
pub unreachable-requires : goal.unreachable-requires
unreachable-requires c = has_price c.args.found.now c.price.result c.requires c.price.ensures.costs c.in_default.is

pub returns-clause-text : goal.returns-clause-text
returns-clause-text c =
    let text = c.from_vec.result in
    let whole : text ≡ codes "lawful price " ++ (decimal c.in-Some.price ++ codes "\n") = search rules in
    tells_lawful c.args.found.now c.price.result c.requires c.price.ensures.costs c.in-Some.price text c.in-Some.is whole
