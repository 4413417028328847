use Rattle.std.proofs.Common.{◌≡◌, ap, max, sym, subst, ◌∙◌}
use Rattle.std.proofs.lemmas.Bool.{true≢false}
use Rattle.fare_law.specs.declared.tickets.Piece.{Piece}
use Rattle.fare_rules.specs.declared.demand.UnitDemand.{UnitDemand}
use Rattle.fare_rules.specs.Demands.{demand_of, has_kind}
use Rattle.fare_rules.proofs.KindLemmas.{common_holds, common_parts}
use Rattle.open_unit.specs.OpenUnits.{PartnerHolds, carriers_with, partner_with, rule_with, rules_with}
use Rattle.open_unit.proofs.joined.may_be.Goals as goal

pub returns-then-not-kind_ok : goal.returns-then-not-kind_ok
returns-then-not-kind_ok c =
    let u = c.args.unit.now in
    let k = c.args.kind in
    let told = c.kind_ok.ensures ∙ ap (λ (d : UnitDemand). has_kind d.kinds k) c.demand.ensures in
    (λ t. absurd (true≢false (sym t)), λ h. absurd (true≢false (sym (told ∙ (common_parts u.kinds (demand_of c.args.last.now.rule u.first_day).kinds k h.0).0) ∙ c.if-not-kind_ok.true)))

pub returns-then-not-kind_ok-2 : goal.returns-then-not-kind_ok-2
returns-then-not-kind_ok-2 c =
    let u = c.args.unit.now in
    let k = c.args.kind in
    let told = c.kind_ok-2.ensures ∙ ap (λ (d : UnitDemand). has_kind d.kinds k) c.requires in
    (λ t. absurd (true≢false (sym t)), λ h. absurd (true≢false (sym (told ∙ (common_parts u.kinds (demand_of c.args.last.now.rule u.first_day).kinds k h.0).1) ∙ c.if-not-kind_ok-2.true)))

pub returns : goal.returns
returns c =
    let u = c.args.unit.now in
    let p = c.args.last.now in
    let k = c.args.kind in
    let d = demand_of p.rule u.first_day in
    let so_far = sym (c.kind_ok.ensures ∙ ap (λ (x : UnitDemand). has_kind x.kinds k) c.demand.ensures) ∙ c.if-not-kind_ok.false in
    let own = sym (c.kind_ok-2.ensures ∙ ap (λ (x : UnitDemand). has_kind x.kinds k) c.requires) ∙ c.if-not-kind_ok-2.false in
    let kinds = common_holds u.kinds d.kinds k so_far own in
    let partner : c.max.result ≡ partner_with u p = c.max.ensures ∙ ap (λ (x : UnitDemand). max u.partner x.partner) c.requires in
    let carrier : c.with-carrier.result ≡ carriers_with u p = c.with-carrier.ensures ∙ ap (λ (x : Piece). carriers_with u x) c.last.view_is in
    let rule : c.with-rule.result ≡ rules_with u p = c.with-rule.ensures ∙ ap (λ (x : Piece). rule_with c.with-carrier.result u.rule x.fare.rule) c.last.view_is ∙ ap (λ m. rule_with m u.rule p.fare.rule) carrier in
    let same : PartnerHolds c.max.result c.with-carrier.result c.with-rule.result ≡ PartnerHolds (partner_with u p) (carriers_with u p) (rules_with u p) = λ i. PartnerHolds (partner i) (carrier i) (rule i) in
    (λ t. (kinds, subst (λ (x : Type 0). x) same (c.partners_hold.ensures.0 t)), λ h. c.partners_hold.ensures.1 (subst (λ (x : Type 0). x) (sym same) h.1))
