use Rattle.std.proofs.Common.{List, subst}
use Rattle.fare_ends.proofs.EndFacts.{knows_self}
use Rattle.fare_law.specs.Lists.{IsIn}
use Rattle.joint_paths.specs.declared.join_ends.CarrierJoins.{CarrierJoins}
use Rattle.joint_paths.specs.JoinEnds.{AreFareJoins}
use Rattle.law_lemmas.proofs.EachOne.{each_in}
use Rattle.joint_paths.proofs.join_ends.JoinEnds.find.Goals as goal

pub returns-in-Some-clause-ends : goal.returns-in-Some-clause-ends
returns-in-Some-clause-ends c =
    let self = c.args.self.now in
    let kept : CarrierJoins = record { key = c.args.key; range = c.in-Some.range } in
    each_in (λ (k : CarrierJoins). AreFareJoins c.args.case.now.book.now c.args.fares.now c.args.tails.now k.key k.range self.ends.items) self.kept.items kept c.requires.joins.joins (subst (λ (xs : List CarrierJoins). IsIn kept xs) c.as_slice.ensures.value c.in-Some.ensures)

pub returns-in-Some-clause-grows : goal.returns-in-Some-clause-grows
returns-in-Some-clause-grows c = knows_self c.args.fares.now
