use Rattle.std.proofs.Common.{[], ap, arith, eqb, length, subst, sym, vec_len, ◌≡◌, ◌∙◌}
use Rattle.std.proofs.lemmas.Result.{IfOk-weaker}
use Rattle.graph_walk.specs.Steps.{AreOutcomes, outcomes_of}
use Rattle.residual_table.specs.Keys.{residual_at}
use Rattle.residual_table.proofs.KeyFacts.{residual_is, stays}
use Rattle.search_steps.specs.declared.numbered.PositionSteps.{PositionSteps}
use Rattle.search_steps.specs.Leads.{leads_of}
use Rattle.search_steps.proofs.ListsByNumber.{got_there, grows_on, live_by_number, live_part, live_position, none_bare, no_outcomes, outcomes_by_number}
use Rattle.search_steps.proofs.keyed.outcomes_of_key.Goals as goal

pub find-requires-clause-number : goal.find-requires-clause-number
find-requires-clause-number c = live_position c.args.lists.now.numbers c.args.key c.requires.live

pub given_by-requires-clause-part : goal.given_by-requires-clause-part
given_by-requires-clause-part c = live_part c.args.lists.now.numbers c.args.key c.requires.live

pub placed_at-requires-clause-live : goal.placed_at-requires-clause-live
placed_at-requires-clause-live c = (c.requires.live.0, stays c.args.lists.now.numbers c.find.new.self.numbers c.find.ensures.grows c.args.key c.requires.live.0 c.requires.live.1)

pub returns-then-is_empty-clause-outcomes : goal.returns-then-is_empty-clause-outcomes
returns-then-is_empty-clause-outcomes c =
    let b = c.args.case.now.book.now in
    let q = c.args.case.now.request.now in
    let k = c.args.key in
    let old = c.args.lists.now.numbers in
    let l = c.find.new.self in
    let r = c.requires.live.0 in
    let stands = stays old l.numbers c.find.ensures.grows k r c.requires.live.1 in
    let found = c.in_ok-at.ensures.found in
    let s = c.index.result.now in
    let same = got_there l.positions.items c.in_ok-at.at s found.steps c.index.ensures found.stands in
    let long : vec_len s.bare ≡ length s.bare.items = omega arith in
    let empty = none_bare s.bare.items (sym (ap (λ n. eqb n 0) long) ∙ sym c.is_empty.ensures ∙ c.if-is_empty.true) in
    let none = no_outcomes b q c.find.new.tables.kept.items l k r c.in_ok-at.at (c.lists_give_outcomes.ensures b q r) c.find.ensures.tables.tables c.find.ensures.right stands found (subst (λ (z : PositionSteps). z.bare.items ≡ []) same empty) in
    subst (λ z. AreOutcomes (leads_of b q) z (outcomes_of (residual_at l.numbers) c.clear.new.self.items)) (sym (residual_is old k r c.requires.live.1)) (subst (λ v. AreOutcomes (leads_of b q) r (outcomes_of (residual_at l.numbers) v)) (sym c.clear.ensures.items) none)

pub returns-clause-grows : goal.returns-clause-grows
returns-clause-grows c = grows_on c.args.lists.now.numbers c.find.new.self.numbers c.placed_at.new.lists.numbers c.find.ensures.grows c.placed_at.ensures.grows

pub returns-clause-outcomes : goal.returns-clause-outcomes
returns-clause-outcomes c =
    let b = c.args.case.now.book.now in
    let q = c.args.case.now.request.now in
    let k = c.args.key in
    let old = c.args.lists.now.numbers in
    let l = c.placed_at.new.lists in
    let ts = c.find.new.tables.kept.items in
    let r = c.requires.live.0 in
    let grows = grows_on old c.find.new.self.numbers l.numbers c.find.ensures.grows c.placed_at.ensures.grows in
    let stands = stays old l.numbers grows k r c.requires.live.1 in
    IfOk-weaker c.given_by.result _ _
    (λ v h. subst (λ z. AreOutcomes (leads_of b q) z (outcomes_of (residual_at l.numbers) v.items)) (sym (residual_is old k r c.requires.live.1))
    (outcomes_by_number b q ts l k r c.in_ok-placed.placed v.items (c.lists_give_outcomes.ensures b q r) c.find.ensures.tables.tables c.placed_at.ensures.right stands c.in_ok-placed.ensures.placed h)) c.given_by.ensures

pub returns-clause-live : goal.returns-clause-live
returns-clause-live c =
    let b = c.args.case.now.book.now in
    let q = c.args.case.now.request.now in
    let k = c.args.key in
    let old = c.args.lists.now.numbers in
    let l = c.placed_at.new.lists in
    let ts = c.find.new.tables.kept.items in
    let r = c.requires.live.0 in
    let grows = grows_on old c.find.new.self.numbers l.numbers c.find.ensures.grows c.placed_at.ensures.grows in
    let stands = stays old l.numbers grows k r c.requires.live.1 in
    IfOk-weaker c.given_by.result _ _
    (λ v h. live_by_number b q ts l k r c.in_ok-placed.placed v.items (c.lists_give_outcomes.ensures b q r) c.find.ensures.tables.tables c.placed_at.ensures.right stands c.in_ok-placed.ensures.placed h) c.given_by.ensures
