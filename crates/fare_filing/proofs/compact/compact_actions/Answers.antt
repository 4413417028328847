use Rattle.std.proofs.Common.{Bor, List, Option, IfSome, ℕ, subst}
use Rattle.fare_law.specs.FilingLimits.{IsAction}
use Rattle.fare_law.specs.declared.filings.Action.{Action}
use Rattle.fare_filing.specs.Compact.{Begins}
use Rattle.fare_filing.proofs.ListLemmas.{begun_more, count_more, ended, limits_more}
use Rattle.fare_filing.proofs.compact.compact_actions.Goals as goal

pub returns-in-None-clause-actions : goal.returns-in-None-clause-actions
returns-in-None-clause-actions c =
    let begins = subst (λ (x : Option (Action × Bor (List ℕ))). IfSome x (λ p. Begins c.loop.rest.now p.0 p.1.now)) c.in-Some.is c.in_ok-found.ensures.action in
    ended c.args.text.now c.loop.rest.now c.in-Some.more.now c.loop.actions c.push.new.self c.in-Some.action c.loop.invariant.begun begins (c.is_end.ensures c.if-is_end.true) c.in_ok-push.ensures.items

pub loop-preserved : goal.loop-preserved
loop-preserved c =
    let begins = subst (λ (x : Option (Action × Bor (List ℕ))). IfSome x (λ p. Begins c.loop.rest.now p.0 p.1.now)) c.in-Some.is c.in_ok-found.ensures.action in
    let limits = subst (λ (x : Option (Action × Bor (List ℕ))). IfSome x (λ p. IsAction p.0)) c.in-Some.is c.in_ok-found.ensures.limits in
    record {
      begun = begun_more c.args.text.now c.loop.rest.now c.in-Some.more.now c.in-Some-after.next.now c.loop.actions c.push.new.self c.in-Some.action c.loop.invariant.begun begins c.in-Some-after.ensures c.in_ok-push.ensures.items;
      limits = limits_more c.loop.actions c.push.new.self c.in-Some.action c.loop.invariant.limits limits c.in_ok-push.ensures.items;
      count = count_more c.loop.actions c.push.new.self c.in-Some.action c.loop.counter c.loop.invariant.count c.in_ok-push.ensures.items;
    }
