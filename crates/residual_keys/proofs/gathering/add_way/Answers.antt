use Rattle.std.proofs.Common.{sym, subst, ◌∙◌}
use Rattle.residual_keys.specs.Gathered.{Adds, IsChosenFiled}
use Rattle.residual_keys.proofs.Pathed.{both_ways, forward_alone}
use Rattle.residual_keys.proofs.gathering.add_way.Goals as goal

pub returns-then-is_empty-clause-moves : goal.returns-then-is_empty-clause-moves
returns-then-is_empty-clause-moves g c =
    let b = c.args.book.now in
    let q = c.args.request.now in
    let r = c.args.residual.now in
    let ns = c.args.way.now.path.flights in
    let there = subst (λ t. Adds (IsChosenFiled b q r ns t) c.args.found.now c.add_market.new.found) c.of-there.ensures.reverse c.in_ok-add_market.ensures.moves in
    forward_alone b q r ns (sym c.of.ensures ∙ c.is_empty.ensures.0 c.if-is_empty.true) c.args.found.now c.add_market.new.found there

pub returns-clause-moves : goal.returns-clause-moves
returns-clause-moves g c =
    let b = c.args.book.now in
    let q = c.args.request.now in
    let r = c.args.residual.now in
    let ns = c.args.way.now.path.flights in
    let there = subst (λ t. Adds (IsChosenFiled b q r ns t) c.args.found.now c.add_market.new.found) c.of-there.ensures.reverse c.in_ok-add_market.ensures.moves in
    let back = subst (λ t. Adds (IsChosenFiled b q r ns t) c.add_market.new.found c.add_market-2.new.found) c.of-back.ensures.reverse c.in_ok-add_market-2.ensures.moves in
    both_ways b q r ns c.args.found.now c.add_market.new.found c.add_market-2.new.found there back
