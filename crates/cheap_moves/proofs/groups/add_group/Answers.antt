use Rattle.std.proofs.Common.{◌≡◌, ◌≤◌, rules, length, ap, sym, subst, ◌∙◌}
use Rattle.cheap_moves.specs.Within.{IsWithin}
use Rattle.cheap_moves.proofs.GroupMoves.{component_is, group_done, none_cheap, none_open, none_permitted, rule_within}
use Rattle.fare_groups.specs.Grouping.{HasRows, IsRowIn}
use Rattle.fare_groups.specs.Groups.{Permits, extra_of}
use Rattle.fare_groups.proofs.OneGroup.{group_rows, group_rungs}
use Rattle.fare_law.specs.Parts.{stopover_charge, surcharges}
use Rattle.fare_law.specs.RuleLimits.{IsRule}
use Rattle.fare_law.specs.Sheets.{Sheet}
use Rattle.law_lemmas.proofs.LawFacts.{low_sum}
use Rattle.law_lemmas.proofs.Tests.{true_false}
use Rattle.residual_keys.specs.Gathered.{IsReadOver}
use Rattle.cheap_moves.proofs.groups.add_group.Goals as goal

pub cheapest-requires : goal.cheapest-requires
cheapest-requires g c = let m = c.args.market.now in group_rungs m.sheet.value.rows m.groups c.requires.over.over.groups_are c.args.group.now c.requires.group

pub returns-in_default : goal.returns-in_default
returns-in_default g c =
    none_open c.args.search.now.book.now c.args.search.now.request.now c.args.search.now.residual.now (g.B.ResidualBounds.bound c.args.search.now.bounds.now) c.args.search.now.limit c.args.flown.now c.args.reverse c.args.market.now c.requires.over c.args.group.now c.requires.group
    c.args.found.now c.in_default.ensures

pub returns-then-not-is_within : goal.returns-then-not-is_within
returns-then-not-is_within g c =
    none_cheap c.args.search.now.book.now c.args.search.now.request.now c.args.search.now.residual.now (g.B.ResidualBounds.bound c.args.search.now.bounds.now) c.args.search.now.limit c.args.flown.now c.args.reverse c.args.market.now c.requires.over c.args.group.now c.requires.group
    c.args.found.now c.in-Some.share c.in-Some.ensures (λ w. true_false (c.is_within.ensures.1 (subst (IsWithin c.args.search.now.limit) (sym c.from.ensures) w)) c.if-not-is_within.true)

pub first_row-row-requires : goal.first_row-row-requires
first_row-row-requires g c =
    subst (λ (s : Sheet). HasRows s.rows c.args.group.now) (sym c.deref-sheet.ensures)
    (group_rows c.args.market.now.sheet.value.rows c.args.market.now.groups c.requires.over.over.groups_are c.args.group.now c.requires.group)

pub extra-requires-clause-rule : goal.extra-requires-clause-rule
extra-requires-clause-rule g c =
    let row = c.first_row-row.result.now in
    let of = subst (λ (s : Sheet). IsRowIn s.rows c.args.group.now row) c.deref-sheet.ensures c.first_row-row.ensures in
    subst IsRule (sym c.deref.ensures)
    (rule_within c.args.search.now.book.now c.args.search.now.request.now c.args.search.now.residual.now (g.B.ResidualBounds.bound c.args.search.now.bounds.now) c.args.search.now.limit c.args.flown.now c.args.reverse c.args.market.now c.requires.over c.args.group.now c.requires.group row of)

pub returns-in_default-extra : goal.returns-in_default-extra
returns-in_default-extra g c =
    let row = c.first_row-row.result.now in
    let of = subst (λ (s : Sheet). IsRowIn s.rows c.args.group.now row) c.deref-sheet.ensures c.first_row-row.ensures in
    none_permitted c.args.search.now.book.now c.args.search.now.request.now c.args.search.now.residual.now (g.B.ResidualBounds.bound c.args.search.now.bounds.now) c.args.search.now.limit c.args.flown.now c.args.reverse c.args.market.now c.requires.over c.args.group.now c.requires.group
    c.args.found.now row of
    (λ p. c.in_default-extra.ensures.none (subst (Permits c.deref.result.now c.args.group.now.key.carrier) (sym c.as_slice-flights.ensures.items) (subst (λ x. Permits x c.args.group.now.key.carrier c.args.flown.now.way.flights) (sym c.deref.ensures) p)))

pub facts_over-facts-requires-clause-rule : goal.facts_over-facts-requires-clause-rule
facts_over-facts-requires-clause-rule g c =
    let row = c.first_row-row.result.now in
    let of = subst (λ (s : Sheet). IsRowIn s.rows c.args.group.now row) c.deref-sheet.ensures c.first_row-row.ensures in
    rule_within c.args.search.now.book.now c.args.search.now.request.now c.args.search.now.residual.now (g.B.ResidualBounds.bound c.args.search.now.bounds.now) c.args.search.now.limit c.args.flown.now c.args.reverse c.args.market.now c.requires.over c.args.group.now c.requires.group row of

pub add_component-requires : goal.add_component-requires
add_component-requires g c =
    let row = c.first_row-row.result.now in
    let of = subst (λ (s : Sheet). IsRowIn s.rows c.args.group.now row) c.deref-sheet.ensures c.first_row-row.ensures in
    let r = c.deref.result.now in
    let fs = c.as_slice-flights.result.now in
    let rule = subst IsRule (sym c.deref.ensures) (rule_within c.args.search.now.book.now c.args.search.now.request.now c.args.search.now.residual.now (g.B.ResidualBounds.bound c.args.search.now.bounds.now) c.args.search.now.limit c.args.flown.now c.args.reverse c.args.market.now c.requires.over c.args.group.now c.requires.group row of) in
    let few = subst (λ gs. length gs ≤ 4) (sym c.as_slice-flights.ensures.items) c.requires.over.over.path_is.shape.few in
    let low = low_sum (stopover_charge r fs) (surcharges r.cat12 fs) c.in-Some-extra.charges (c.limits_are_met.ensures.charged r fs rule few) (c.limits_are_met.ensures.surcharged r fs rule few) c.in-Some-extra.ensures.some.1 in
    let permits = subst (λ x. Permits x c.args.group.now.key.carrier c.args.flown.now.way.flights) c.deref.ensures (subst (Permits r c.args.group.now.key.carrier) c.as_slice-flights.ensures.items c.in-Some-extra.ensures.some.0) in
    let charges = c.in-Some-extra.ensures.some.1 ∙ ap (λ gs. extra_of r gs) c.as_slice-flights.ensures.items ∙ ap (λ x. extra_of x c.args.flown.now.way.flights) c.deref.ensures in
    let o = c.facts_over-facts.ensures in
    let p = c.facts_over-facts.result in
    let sale : p.sale ≡ c.args.search.now.request.now.sale = search rules in
    let read = subst (λ gs. IsReadOver c.args.search.now.request.now.sale gs row c.args.reverse p) c.as_slice-flights.ensures.items (subst (λ d. IsReadOver d fs row c.args.reverse p) (sym o.over.sale_is ∙ sale) o.over) in
    component_is c.args.search.now.book.now c.args.search.now.request.now c.args.search.now.residual.now _ c.args.reverse row read c.requires.over c.requires.group of permits charges low o.in_ranges

pub returns : goal.returns
returns g c =
    let row = c.first_row-row.result.now in
    let of = subst (λ (s : Sheet). IsRowIn s.rows c.args.group.now row) c.deref-sheet.ensures c.first_row-row.ensures in
    let r = c.deref.result.now in
    let fs = c.as_slice-flights.result.now in
    let rule = subst IsRule (sym c.deref.ensures) (rule_within c.args.search.now.book.now c.args.search.now.request.now c.args.search.now.residual.now (g.B.ResidualBounds.bound c.args.search.now.bounds.now) c.args.search.now.limit c.args.flown.now c.args.reverse c.args.market.now c.requires.over c.args.group.now c.requires.group row of) in
    let few = subst (λ gs. length gs ≤ 4) (sym c.as_slice-flights.ensures.items) c.requires.over.over.path_is.shape.few in
    let low = low_sum (stopover_charge r fs) (surcharges r.cat12 fs) c.in-Some-extra.charges (c.limits_are_met.ensures.charged r fs rule few) (c.limits_are_met.ensures.surcharged r fs rule few) c.in-Some-extra.ensures.some.1 in
    let permits = subst (λ x. Permits x c.args.group.now.key.carrier c.args.flown.now.way.flights) c.deref.ensures (subst (Permits r c.args.group.now.key.carrier) c.as_slice-flights.ensures.items c.in-Some-extra.ensures.some.0) in
    let charges = c.in-Some-extra.ensures.some.1 ∙ ap (λ gs. extra_of r gs) c.as_slice-flights.ensures.items ∙ ap (λ x. extra_of x c.args.flown.now.way.flights) c.deref.ensures in
    let o = c.facts_over-facts.ensures in
    let p = c.facts_over-facts.result in
    let sale : p.sale ≡ c.args.search.now.request.now.sale = search rules in
    let read = subst (λ gs. IsReadOver c.args.search.now.request.now.sale gs row c.args.reverse p) c.as_slice-flights.ensures.items (subst (λ d. IsReadOver d fs row c.args.reverse p) (sym o.over.sale_is ∙ sale) o.over) in
    group_done c.args.search.now.book.now c.args.search.now.request.now c.args.search.now.residual.now (g.B.ResidualBounds.bound c.args.search.now.bounds.now) c.args.search.now.limit _ c.args.reverse c.add_component.result c.args.found.now c.add_component.new.found read.reverse_is c.add_component.ensures
    (component_is c.args.search.now.book.now c.args.search.now.request.now c.args.search.now.residual.now _ c.args.reverse row read c.requires.over c.requires.group of permits charges low o.in_ranges)
