use Rattle.std.proofs.Common.{◌≡◌, ◌↔◌, ◌+◌, IsTrue, sym, subst, arith}
use Rattle.ticket_whole.specs.Breaches.{number_of}
use Rattle.fare_verdict.specs.Findings.{AreAll}
use Rattle.fare_verdict.specs.Stages.{IsTested}
use Rattle.fare_verdict.proofs.RuleTurns.{IsBelow, rules_all, rules_more, rules_skip}
use Rattle.fare_verdict.proofs.judging.all_findings.Goals as goal
use Rattle.fare_verdict.proofs.judging.all_findings.Goals.{then-is_tested+in_ok-push_of, else-is_tested}

pub loop-rule-preserved : goal.loop-rule-preserved
loop-rule-preserved c =
    let b = c.args.book.now in
    let q = c.args.request.now in
    let t = c.args.ticket.now in
    let rule = c.loop-rule.rule in
    let d = c.numbered-demand.result in
    let number : rule ≡ number_of d = sym c.numbered-demand.ensures in
    let tested : IsTrue c.is_tested.result ↔ IsTested b q t d = c.is_tested.ensures b q t c.stages_of-stages.ensures in
    elim c.if-is_tested.branch [
      | then-is_tested+in_ok-push_of w ↦ subst (λ xs. AreAll (IsBelow b q t (rule + 1)) xs) (sym w.found-is)
          (rules_more b q t rule d c.loop-rule.found w.push_of.new.found number (tested.0 w.if-is_tested.true) c.loop-rule.invariant w.in_ok-push_of.ensures)
      | else-is_tested w ↦ subst (λ xs. AreAll (IsBelow b q t (rule + 1)) xs) (sym w.found-is)
          (rules_skip b q t rule d c.loop-rule.found number (λ s. let r = tested.1 s in let f = w.if-is_tested.false in absurd (cc)) c.loop-rule.invariant)
    ]

pub returns : goal.returns
returns c =
    let test = c.loop-rule-test.false in
    rules_all c.args.book.now c.args.request.now c.args.ticket.now c.loop-rule.rule c.loop-rule.found (omega (arith, test)) c.loop-rule.invariant
