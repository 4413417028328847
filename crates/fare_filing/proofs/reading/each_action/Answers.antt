use Rattle.std.proofs.Common.{◌≡◌, ◌+◌, List, [], ◌∷◌, ◌++◌, length, sym, subst, arith, ap, ◌∙◌, length-append}
use Rattle.fare_law.specs.FilingLimits.{IsAction}
use Rattle.fare_law.specs.Lists.{Each}
use Rattle.fare_law.specs.declared.filings.Action.{Action}
use Rattle.fare_filing.proofs.ActionLemmas.{actions_more, after, left}
use Rattle.law_lemmas.proofs.EachOne.{each_more}
use Rattle.fare_filing.proofs.reading.each_action.Goals as goal

pub loop-item-preserved : goal.loop-item-preserved
loop-item-preserved c =
    let before = c.loop-item.actions in
    let action = c.in_ok-action.action in
    let i = c.loop-item.item-index in
    let e : c.push.new.self ≡ before ++ action ∷ [] = c.in_ok-push.ensures.items in
    let at : c.len.result + 1 ≡ i + 1 = omega (arith, c.len.ensures, c.loop-item.invariant.count) in
    record {
      rest = subst (λ (actions : List Action). after actions (left c.args.items.now (i + 1)) ≡ left c.args.items.now 0) (sym e)
          (actions_more before action c.args.items.now i (c.len.result + 1) c.item-item.result c.loop-item-test.true c.item-item.is at c.in_ok-action.ensures.action c.loop-item.invariant.rest);
      limits = subst (λ (actions : List Action). Each IsAction actions) (sym e) (each_more IsAction before action c.loop-item.invariant.limits c.in_ok-action.ensures.limits);
      count = ap length e ∙ simp length-append (omega arith);
    }
