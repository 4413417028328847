use Rattle.std.proofs.Common.{refl, sym, subst, ◌∙◌, FitsSigned, w32, rules}
use Rattle.std.proofs.lemmas.Int.{to_z-of_z}
use Rattle.open_unit.specs.declared.units.OpenUnit.{OpenUnit}
use Rattle.open_unit.specs.Ranges.{UnitInRanges}
use Rattle.open_unit.proofs.RoleLemmas.{may_go_on, going_on_allows, gone_on_in_ranges}
use Rattle.open_unit.proofs.units.OpenUnit.go_on_by.Goals as goal

pub returns-then-not-allow-clause-goes_on : goal.returns-then-not-allow-clause-goes_on
returns-then-not-allow-clause-goes_on c =
    let j = c.of-fares.ensures in (
      λ e. absurd (cc),
      λ m. sym c.if-not-allow.true ∙ c.allow.ensures.1 (going_on_allows c.args.self.now c.args.facts.now c.of-fares.result (record { demand = j.demand; carrier = j.carrier; rule = j.rule }) m),
    )

pub returns-clause-goes_on : goal.returns-clause-goes_on
returns-clause-goes_on c =
    let j = c.of-fares.ensures in
    let small : FitsSigned w32 c.args.self.now.first_day = search rules in
    let fits = simp to_z-of_z at c.fits.ensures in (
      λ _. may_go_on c.args.self.now c.args.facts.now c.of-fares.result (record { demand = j.demand; carrier = j.carrier; rule = j.rule })
          (c.may_be_followed.ensures.0 c.if-not-may_be_followed.false) (fits.0 c.if-not-fits.false) (c.allow.ensures.0 c.if-not-allow.false),
      λ _. refl,
    )

pub returns-clause-in_ranges : goal.returns-clause-in_ranges
returns-clause-in_ranges c =
    let j = c.of-fares.ensures in
    let follows = c.may_be_followed.ensures.0 c.if-not-may_be_followed.false in
    subst (λ (u : OpenUnit). UnitInRanges u) (sym c.followed_by.ensures)
    (gone_on_in_ranges c.args.self.now c.args.facts.now c.of-fares.result (record { demand = j.demand; carrier = j.carrier; rule = j.rule }) c.requires.unit j.in_range follows.1)
