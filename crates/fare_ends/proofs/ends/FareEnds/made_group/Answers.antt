use Rattle.std.proofs.Common.{◌≡◌, ◌++◌, List, length, refl, sym, ap, subst, ◌∙◌, arith}
use Rattle.fare_ends.specs.Ends.{IsRange, between}
use Rattle.fare_ends.specs.Rungs.{AreRungs}
use Rattle.fare_ends.proofs.GroupFacts.{rows_of, rungs_low}
use Rattle.fare_ends.proofs.Ranges.{between_last, range_last}
use Rattle.fare_groups.specs.declared.rungs.Rung.{Rung}
use Rattle.fare_groups.specs.Grouping.{HasRows}
use Rattle.fare_law.specs.Sheets.{Sheet}
use Rattle.fare_ends.proofs.ends.FareEnds.made_group.Goals as goal

pub first_row-row-requires : goal.first_row-row-requires
first_row-row-requires c = subst (λ (s : Sheet). HasRows s.rows c.args.group.now) (sym c.deref-sheet.ensures) (rows_of c.args.case.now.book.now c.args.market.now c.args.group.now c.requires.market c.requires.group)

pub returns-clause-group : goal.returns-clause-group
returns-clause-group c =
    let g = c.args.group.now in
    let old = c.args.self.now.rungs.items in
    let new = c.extend_from_slice.new.self.items in
    let joined : new ≡ old ++ g.rungs = c.in_ok-extend_from_slice.ensures.items ∙ ap (λ xs. old ++ xs) c.as_slice.ensures in
    let from : c.len-from.result ≡ length old = omega (arith, c.len-from.ensures) in
    let to : c.len-to.result ≡ length (old ++ g.rungs) = omega (arith, c.len-to.ensures, ap length joined) in
    let here : between new c.len-from.result c.len-to.result ≡ g.rungs = ap (λ (xs : List Rung). between xs c.len-from.result c.len-to.result) joined ∙ between_last old g.rungs c.len-from.result c.len-to.result from to in
    record {
      key = refl;
      way = refl;
      range = subst (λ (xs : List Rung). IsRange xs c.len-from.result c.len-to.result) (sym joined) (range_last old g.rungs c.len-from.result c.len-to.result from to);
      rungs = subst (AreRungs g.fares) (sym here) (rungs_low c.args.case.now.book.now c.args.market.now g c.requires.market c.requires.group c.limits.ensures);
      rule = c.in_ok-rule.ensures.found;
    }
