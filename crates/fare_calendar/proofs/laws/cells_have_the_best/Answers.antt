use Rattle.fare_calendar.proofs.BestPrices.{best_is_least, cells_cost, cells_empty, over_empty}
use Rattle.fare_calendar.proofs.laws.cells_have_the_best.Goals as goal

pub returns-clause-least : goal.returns-clause-least
returns-clause-least c b q outs backs price two h =
    cells_cost b q outs backs price ((c.cells_cover.ensures.least b q outs backs price two).0 (best_is_least b _ h.ticket h.others price h.best h.costs))

pub returns-clause-none : goal.returns-clause-none
returns-clause-none c b q outs backs two some best =
    cells_empty b q outs backs (λ t. (c.cells_cover.ensures.lawful t b q outs backs two).1) some best

pub returns-clause-empty : goal.returns-clause-empty
returns-clause-empty c b q outs backs two empty best is =
    over_empty b q outs backs (λ t. (c.cells_cover.ensures.lawful t b q outs backs two).0) empty best is
