use Rattle.std.proofs.Common.{◌+◌, ◌≤◌, List, [], ◌∷◌, ◌++◌, take, subst, sym}
use Rattle.fare_groups.specs.declared.group.FareGroup.{FareGroup}
use Rattle.fare_groups.specs.Grouping.{IsFinished}
use Rattle.fare_law.specs.Lists.{Each, Matched}
use Rattle.law_lemmas.proofs.EachOne.{each_in}
use Rattle.law_lemmas.proofs.Lists.{front_read}
use Rattle.law_lemmas.proofs.Members.{read_in}
use Rattle.law_lemmas.proofs.Pairs.{matched_more}
use Rattle.fare_groups.proofs.grouping.finished_groups.Goals as goal

pub finished-requires : goal.finished-requires
finished-requires c =
    let all = c.args.gathered.now in
    each_in (λ (g : FareGroup). Each (λ f. f.class ≤ 25) g.fares) all c.group-item.result c.requires (read_in all c.loop-group.group-index _ c.group-item.result c.loop-group-test.true c.group-item.is)

pub loop-group-preserved : goal.loop-group-preserved
loop-group-preserved c =
    let all = c.args.gathered.now in
    let i = c.loop-group.group-index in
    let done = c.in_ok-done.done in
    subst (Matched IsFinished (take (i + 1) all)) (sym c.in_ok-push.ensures.items)
    (subst (λ (gs : List FareGroup). Matched IsFinished gs (c.loop-group.groups.items ++ done ∷ [])) (sym (front_read all i _ c.group-item.result c.loop-group-test.true c.group-item.is))
    (matched_more IsFinished (take i all) c.loop-group.groups.items c.group-item.result done c.loop-group.invariant c.in_ok-done.ensures))
