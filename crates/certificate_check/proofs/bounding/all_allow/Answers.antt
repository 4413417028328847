use Rattle.std.proofs.Common.{◌≡◌, ◌+◌, true, take}
use Rattle.certificate_check.specs.Bounds.{Allows}
use Rattle.certificate_check.proofs.EachSoFar.{each_got, each_outcome, outcome_each}
use Rattle.graph_walk.specs.declared.outcome.Outcome.{Outcome}
use Rattle.graph_walk.specs.Steps.{outcome_of}
use Rattle.residual_keys.specs.Residuals.{State}
use Rattle.residual_table.specs.declared.key.ResidualKey.{ResidualKey}
use Rattle.search_steps.specs.Keys.{state}
use Rattle.law_lemmas.proofs.EachOne.{holds_at}
use Rattle.certificate_check.proofs.bounding.all_allow.Goals as goal

pub returns-then-not-allows : goal.returns-then-not-allows
returns-then-not-allows c =
    let allows = λ (o : Outcome State). Allows c.args.table.now.rows.now c.args.row.now o.next o.price in
    let s = state c.args.steps.now in
    let os = c.args.outcomes.now in
    (λ e. absurd (cc), λ h. absurd (let t = c.allows.ensures.1 (holds_at (λ (o : Outcome ResidualKey). allows (outcome_of s o)) os c.loop-outcome.outcome-index _ c.loop-outcome-test.true (each_outcome s allows os h)) in let denied = c.if-not-allows.true in cc))

pub loop-outcome-preserved : goal.loop-outcome-preserved
loop-outcome-preserved c =
    let allows = λ (o : Outcome State). Allows c.args.table.now.rows.now c.args.row.now o.next o.price in
    let s = state c.args.steps.now in
    let os = c.args.outcomes.now in
    let i = c.loop-outcome.outcome-index in
    let agreed : c.allows.result ≡ true = cc in
    outcome_each s allows (take (i + 1) os) (each_got (λ (o : Outcome ResidualKey). allows (outcome_of s o)) os i _ c.loop-outcome-test.true (each_outcome s allows (take i os) c.loop-outcome.invariant) (c.allows.ensures.0 agreed))
