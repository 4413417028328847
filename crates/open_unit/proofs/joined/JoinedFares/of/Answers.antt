use Rattle.std.proofs.Common.{subst, sym, arith}
use Rattle.std.proofs.lemmas.Int.{ints}
use Rattle.fare_rules.specs.declared.demand.UnitDemand.{UnitDemand}
use Rattle.fare_law.specs.declared.tickets.Piece.{Piece}
use Rattle.fare_rules.specs.Ranges.{DemandInRange, StaysInRange}
use Rattle.open_unit.proofs.joined.JoinedFares.of.Goals as goal

pub returns-clause-in_range : goal.returns-clause-in_range
returns-clause-in_range c =
    let u = c.requires.unit in
    let high = u.first.1 in
    let so_far : DemandInRange c.demand.result =
    subst (λ (d : UnitDemand). DemandInRange d) (sym c.demand.ensures) (record { least = u.least; greatest = u.greatest; by = u.by; kinds = u.kinds; partner = u.partner }) in
    c.meet.ensures.in_range so_far (c.of.ensures.in_range (omega (arith, ints)) (subst (λ (p : Piece). StaysInRange p.rule) (sym c.facts.view_is) c.requires.facts.rule))
