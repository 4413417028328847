use Rattle.std.proofs.Common.{subst}
use Rattle.std.proofs.lemmas.List.{take_all}
use Rattle.asked_keys.proofs.OfferedFacts.{NoneOfAll, none_filed, none_more}
use Rattle.fare_law.specs.Lists.{IsIn}
use Rattle.law_lemmas.proofs.Members.{read_in}
use Rattle.asked_keys.proofs.offered.may_be_offered.Goals as goal

pub loop-group-init : goal.loop-group-init
loop-group-init c = λ g i. absurd i

pub is_offered-requires-clause-group : goal.is_offered-requires-clause-group
is_offered-requires-clause-group c =
    subst (IsIn c.group-item.result) c.as_slice-group-items.ensures (read_in c.as_slice-group-items.result.now c.loop-group.group-index c.group-item.result c.group-item.result c.loop-group-test.true c.group-item.is)

pub loop-group-preserved : goal.loop-group-preserved
loop-group-preserved c =
    none_more c.args.market.now.sheet.value.rows c.args.way.now.legs c.as_slice-group-items.result.now c.loop-group.group-index c.group-item.result c.group-item.result c.loop-group-test.true c.group-item.is c.loop-group.invariant
    (c.is_offered.ensures c.if-is_offered.false)

pub returns-then-is_offered : goal.returns-then-is_offered
returns-then-is_offered c = λ e. absurd (cc)

pub returns : goal.returns
returns c = λ _ q are.
    let rows = c.args.market.now.sheet.value.rows in
    let legs = c.args.way.now.legs in
    let items = c.as_slice-group-items.result.now in
    let laws = c.order_laws.ensures in
    none_filed laws.less_never laws.less_trans laws.less_total c.args.book.now q c.args.way.now.flights legs c.args.market.now are c.requires.market
    (subst (NoneOfAll rows legs) c.as_slice-group-items.ensures (subst (NoneOfAll rows legs) (take_all c.loop-group.group-index items c.loop-group-test.false) c.loop-group.invariant))
