use Rattle.std.proofs.Common.{sym, subst, ◌∙◌}
use Rattle.std.proofs.lemmas.Bool.{true≢false}
use Rattle.fare_rules.specs.declared.demand.UnitDemand.{UnitDemand}
use Rattle.fare_rules.specs.Demands.{AtMost, MayReturn, demand_of}
use Rattle.fare_rules.proofs.DayLemmas.{earlier_holds, earlier_parts, later_holds, later_parts}
use Rattle.open_unit.specs.OpenUnits.{demand_so_far}
use Rattle.open_unit.proofs.joined.may_return.Goals as goal

pub returns-then-not-returns : goal.returns-then-not-returns
returns-then-not-returns c =
    let u = c.args.unit.now in
    let p = c.args.last.now in
    let d = demand_of p.rule u.first_day in
    let first = λ (h : MayReturn (demand_so_far u) p.first_day × AtMost u.by p.last_day). c.returns.ensures.1 (subst (λ (x : UnitDemand). MayReturn x p.first_day × AtMost x.by p.last_day) (sym c.demand-so_far.ensures) h) in (
      λ t. absurd (true≢false (sym t)),
      λ h. absurd (true≢false (sym (first (((later_parts u.least d.min_return p.first_day h.0.0).0, (earlier_parts u.greatest d.max_return p.first_day h.0.1).0), (earlier_parts u.by d.by p.last_day h.1).0)) ∙ c.if-not-returns.true)),
    )

pub returns : goal.returns
returns c =
    let u = c.args.unit.now in
    let p = c.args.last.now in
    let d = demand_of p.rule u.first_day in
    let so_far : MayReturn (demand_so_far u) p.first_day × AtMost u.by p.last_day = subst (λ (x : UnitDemand). MayReturn x p.first_day × AtMost x.by p.last_day) c.demand-so_far.ensures (c.returns.ensures.0 c.if-not-returns.false) in (
      λ t.
          let own : MayReturn d p.first_day × AtMost d.by p.last_day = subst (λ (x : UnitDemand). MayReturn x p.first_day × AtMost x.by p.last_day) c.requires (c.returns-2.ensures.0 t) in
          ((later_holds u.least d.min_return p.first_day so_far.0.0 own.0.0, earlier_holds u.greatest d.max_return p.first_day so_far.0.1 own.0.1), earlier_holds u.by d.by p.last_day so_far.1 own.1),
      λ h. c.returns-2.ensures.1 (subst (λ (x : UnitDemand). MayReturn x p.first_day × AtMost x.by p.last_day) (sym c.requires) (((later_parts u.least d.min_return p.first_day h.0.0).1, (earlier_parts u.greatest d.max_return p.first_day h.0.1).1), (earlier_parts u.by d.by p.last_day h.1).1)),
    )
