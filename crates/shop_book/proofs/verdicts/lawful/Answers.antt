use Rattle.std.proofs.Common.{◌≡◌, ◌++◌, codes, decimal, rules}
use Rattle.lowfare.proofs.VerdictMakes.{has_price, tells_lawful}
use Rattle.shop_book.specs.Asked.{judged_case}
use Rattle.shop_book.proofs.verdicts.lawful.Goals as goal

-- a lawful ticket has a price
pub unreachable-requires : goal.unreachable-requires
unreachable-requires c = has_price (judged_case c.args.book.now c.args.request.now c.args.ticket.now) c.price.result c.requires c.price.ensures.costs c.in-None.is

pub returns-clause-text : goal.returns-clause-text
returns-clause-text c =
    let text = c.from_vec.result in
    let whole : text ≡ codes "lawful price " ++ (decimal c.in-Some.price ++ codes "\n") = search rules in
    tells_lawful (judged_case c.args.book.now c.args.request.now c.args.ticket.now) c.price.result c.requires c.price.ensures.costs c.in-Some.price text c.in-Some.is whole
