use Rattle.std.proofs.Common.{◌≡◌, ◌∙◌, subst, sym}
use Rattle.residual_keys.specs.Kept.{PartKept, open_units}
use Rattle.residual_keys.specs.Residuals.{State}
use Rattle.residual_table.specs.Keys.{StandsFor}
use Rattle.residual_table.proofs.KeyFacts.{has_slots, one_got, units_are}
use Rattle.law_lemmas.proofs.Lists.{got_within}
use Rattle.residual_table.proofs.parts.ResidualParts.residual.Goals as goal

pub position_at-at-requires : goal.position_at-at-requires
position_at-at-requires c = got_within c.args.self.now.positions c.args.key.now.position c.requires.0.at c.requires.1.at

pub unit_in-first-requires : goal.unit_in-first-requires
unit_in-first-requires c = (has_slots c.args.self.now.units c.args.key.now.first c.args.key.now.second c.requires.0.units c.requires.1.units).0

pub unit_in-second-requires : goal.unit_in-second-requires
unit_in-second-requires c = (has_slots c.args.self.now.units c.args.key.now.first c.args.key.now.second c.requires.0.units c.requires.1.units).1

pub new-requires : goal.new-requires
new-requires c =
    let k = c.args.key.now in
    let x = c.requires.0 in
    let h = c.requires.1 in
    let u = units_are c.args.self.now.units k.first k.second x.units c.unit_in-first.result c.unit_in-second.result h.units c.unit_in-first.ensures.slot c.unit_in-second.ensures.slot in
    record { turn = u.0; first = c.unit_in-first.ensures.in_ranges; second = c.unit_in-second.ensures.in_ranges; part = subst PartKept (sym h.part) h.kept }

pub returns : goal.returns
returns c =
    let t = c.args.self.now in
    let k = c.args.key.now in
    let x = c.requires.0 in
    let h = c.requires.1 in
    let at = one_got t.positions k.position c.position_at-at.result x.at c.position_at-at.ensures h.at in
    let units = (units_are t.units k.first k.second x.units c.unit_in-first.result c.unit_in-second.result h.units c.unit_in-first.ensures.slot c.unit_in-second.ensures.slot).1 in
    let part = h.part in
    let made : ◌≡◌ {A = State} (record { at = c.position_at-at.result; units = open_units c.unit_in-first.result c.unit_in-second.result; part = k.part }) x = λ j. record { at = at j; units = units j; part = part j } in
    subst (StandsFor t k) (sym (c.new.ensures ∙ made)) h
