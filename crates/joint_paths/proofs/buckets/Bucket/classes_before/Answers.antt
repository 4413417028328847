use Rattle.std.proofs.Common.{subst, arith}
use Rattle.joint_paths.specs.Heads.{HasOpen}
use Rattle.joint_paths.proofs.HeadFacts.{none_here, none_open, some_open, within_reach}
use Rattle.law_lemmas.proofs.Members.{in_got}
use Rattle.law_lemmas.proofs.Tests.{true_false}
use Rattle.joint_paths.proofs.buckets.Bucket.classes_before.Goals as goal
use Rattle.joint_paths.proofs.buckets.Bucket.classes_before.Goals.{then-tail-reach-via-then-tail-reach, then-tail-reach-via-else-tail-reach+then-reach-eq0, then-classes-eq0-via-then-classes-eq0, then-classes-eq0-via-else-classes-eq0+then-calls_here}

pub returns-then-tail-reach : goal.returns-then-tail-reach
returns-then-tail-reach c = none_open c.args.self.now c.args.tail.now 0 (λ h i f.
    let n = in_got c.args.self.now.heads.now h i in
    let r = within_reach c.args.self.now c.args.tail.now c.requires.tail c.room_before.result c.room_before.ensures c.reach-reach.result c.reach-reach.ensures.reach n.0 h n.1 f in
    let first = r.0 in
    let second = r.1 in
    elim c.then-tail-reach.branch [
      | then-tail-reach-via-then-tail-reach w ↦ let low = w.if-tail-reach.true in absurd (omega (arith, low, second))
      | then-tail-reach-via-else-tail-reach+then-reach-eq0 w ↦ let none = w.if-reach-eq0.true in absurd (omega (arith, none, first))
    ])

pub returns-then-classes-eq0 : goal.returns-then-classes-eq0
returns-then-classes-eq0 c = elim c.then-classes-eq0.branch [
  | then-classes-eq0-via-then-classes-eq0 w ↦ subst (HasOpen c.args.self.now c.args.tail.now) w.if-classes-eq0.true (some_open c.args.self.now c.requires.bucket c.args.tail.now c.requires.tail)
  | then-classes-eq0-via-else-classes-eq0+then-calls_here w ↦ none_open c.args.self.now c.args.tail.now 0 (λ h i f.
      let tail = c.requires.tail in
      true_false w.if-calls_here.true ((w.calls_here.ensures tail.path tail.stands tail.short.flights tail.short.numbers).1 (none_here c.args.self.now c.requires.bucket h i c.args.tail.now tail f)))
]

pub returns : goal.returns
returns c = some_open c.args.self.now c.requires.bucket c.args.tail.now c.requires.tail
