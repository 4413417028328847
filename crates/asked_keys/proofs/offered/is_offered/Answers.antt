use Rattle.std.proofs.Common.{◌≡◌, ◌∙◌, ◌≤◌, All, not, length, ap, subst, sym}
use Rattle.asked_keys.proofs.OfferedFacts.{cheapest_none, none_first, none_open, none_permitted, none_when, rule_within}
use Rattle.fare_groups.specs.Grouping.{HasRows, IsRowIn}
use Rattle.fare_groups.specs.Groups.{Permits}
use Rattle.fare_groups.proofs.OneGroup.{group_rows, group_rungs}
use Rattle.fare_law.specs.Limits.{IsFlight}
use Rattle.fare_law.specs.Lists.{OnFirst}
use Rattle.fare_law.specs.RuleLimits.{IsRule}
use Rattle.fare_law.specs.Sheets.{Sheet}
use Rattle.law_lemmas.proofs.Tests.{true_false}
use Rattle.asked_keys.proofs.offered.is_offered.Goals as goal

pub first_of-requires : goal.first_of-requires
first_of-requires c = subst (λ fs. 1 ≤ length fs) (sym c.as_slice-flights.ensures.items) c.requires.some

pub returns-then-not-is : goal.returns-then-not-is
returns-then-not-is c = λ _.
    let f = c.first_of.result.now in
    none_first c.args.book.now c.args.way.now.flights c.args.way.now.legs c.args.market.now c.args.group.now c.requires.market c.requires.limited c.requires.group c.requires.legs f
    (subst (OnFirst (λ x. f ≡ x)) c.as_slice-flights.ensures.items c.first_of.ensures.first) (λ e. true_false (c.is.ensures.1 e) c.if-not-is.true)

pub cheapest-requires : goal.cheapest-requires
cheapest-requires c = let m = c.args.market.now in group_rungs m.sheet.value.rows m.groups c.requires.market.groups c.args.group.now c.requires.group

pub returns-then-is_none : goal.returns-then-is_none
returns-then-is_none c = λ _.
    none_open c.args.book.now c.args.way.now.flights c.args.way.now.legs c.args.market.now c.args.group.now c.requires.market c.requires.limited c.requires.group c.args.classes c.requires.classes
    (cheapest_none c.args.classes c.args.group.now.fares c.cheapest.result (c.is_none.ensures ∙ ap not c.if-is_none.true) c.cheapest.ensures)

pub first_row-row-requires : goal.first_row-row-requires
first_row-row-requires c =
    subst (λ (s : Sheet). HasRows s.rows c.args.group.now) (sym c.deref-sheet.ensures) (group_rows c.args.market.now.sheet.value.rows c.args.market.now.groups c.requires.market.groups c.args.group.now c.requires.group)

pub extra-requires-clause-flights : goal.extra-requires-clause-flights
extra-requires-clause-flights c = subst (All IsFlight) (sym c.as_slice-flights.ensures.items) c.requires.flights

pub extra-requires-clause-rule : goal.extra-requires-clause-rule
extra-requires-clause-rule c =
    let row = c.first_row-row.result.now in
    let of = subst (λ (s : Sheet). IsRowIn s.rows c.args.group.now row) c.deref-sheet.ensures c.first_row-row.ensures in
    subst IsRule (sym c.deref.ensures) (rule_within c.args.book.now c.args.way.now.flights c.args.way.now.legs c.args.market.now c.args.group.now c.requires.market c.requires.limited c.requires.group row of)

pub returns : goal.returns
returns c = λ e.
    let row = c.first_row-row.result.now in
    let of = subst (λ (s : Sheet). IsRowIn s.rows c.args.group.now row) c.deref-sheet.ensures c.first_row-row.ensures in
    none_permitted c.args.book.now c.args.way.now.flights c.args.way.now.legs c.args.market.now c.args.group.now c.requires.market c.requires.limited c.requires.group c.requires.legs row of
    (λ p. none_when c.extra.result _ (sym c.is_some.ensures ∙ e) c.extra.ensures.none (subst (Permits c.deref.result.now c.args.group.now.key.carrier) (sym c.as_slice-flights.ensures.items) (subst (λ x. Permits x c.args.group.now.key.carrier c.args.way.now.flights) (sym c.deref.ensures) p)))
