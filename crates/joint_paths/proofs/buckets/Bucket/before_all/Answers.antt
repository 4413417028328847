use Rattle.std.proofs.Common.{[], ◌∷◌, sym, subst, inl, inr, get_or, take, arith}
use Rattle.std.proofs.lemmas.List.{take_all}
use Rattle.fare_law.specs.Lists.{IsIn}
use Rattle.joint_paths.specs.declared.tail_classes.JoinTail.{JoinTail}
use Rattle.joint_paths.specs.Heads.{FollowsOn}
use Rattle.joint_paths.specs.Tails.{IsJoinTail}
use Rattle.joint_paths.proofs.HeadFacts.{none_before}
use Rattle.joint_paths.proofs.Ranged.{in_take}
use Rattle.law_lemmas.proofs.EachOne.{each_at}
use Rattle.law_lemmas.proofs.Lists.{front_at}
use Rattle.law_lemmas.proofs.Members.{in_either, in_one}
use Rattle.joint_paths.proofs.buckets.Bucket.before_all.Goals as goal

abbrev no_tail : JoinTail
no_tail = record { number = 0; first = 0; count = 0; classes = 0; mark = 0 }

pub loop-at-preserved : goal.loop-at-preserved
loop-at-preserved c = λ t i h j f.
    let k = c.args.self.now in
    let ts = c.args.tails.now in
    let n = c.loop-at.at in
    let one = get_or ts n no_tail in
    let before = c.if-tails-at.false in
    elim (in_either t (take n ts) (one ∷ []) (subst (IsIn t) (front_at ts n no_tail c.loop-at-test.true) i)) [
      | inl a ↦ c.loop-at.invariant t a h j f
      | inr b ↦
          let own = each_at (IsJoinTail k.case.now.book.now k.case.now.request.now k.paths.now) ts n no_tail c.requires.tails c.loop-at-test.true in
          none_before k c.requires.bucket one own (omega (arith, before)) h j (subst (FollowsOn k h) (in_one t one b) f)
    ]

pub returns-clause-before : goal.returns-clause-before
returns-clause-before c = λ t i h j f.
    let ts = c.args.tails.now in
    c.loop-at.invariant t (subst (IsIn t) (sym (take_all c.loop-at.at ts (let l = c.loop-at-test.false in omega (arith, l)))) (in_take _ ts t i)) h j f
