use Rattle.std.proofs.Common.{ap, not, subst, sym}
use Rattle.fare_law.specs.Parts.{Numbers}
use Rattle.joint_paths.proofs.HeadFacts.{few_flights, head_known}
use Rattle.law_lemmas.proofs.Tests.{false_true, true_false, untrue}
use Rattle.joint_paths.proofs.buckets.Bucket.is_apart.Goals as goal

pub returns-then-calls_here : goal.returns-then-calls_here
returns-then-calls_here c = λ path got fs gs m n. (λ e. absurd (false_true e), λ each. absurd (true_false c.if-calls_here.true ((c.calls_here.ensures path got gs n).1 each.0)))

pub numbers-numbers-requires : goal.numbers-numbers-requires
numbers-numbers-requires c = few_flights c.args.self.now c.requires.bucket c.args.head.now c.requires.head

pub calls_at_one-requires-clause-numbers : goal.calls_at_one-requires-clause-numbers
calls_at_one-requires-clause-numbers c = head_known c.args.self.now c.requires.bucket c.args.head.now c.requires.head c.numbers-numbers.result.now c.numbers-numbers.ensures

pub returns : goal.returns
returns c = λ path got fs gs m n.
    let b = c.args.self.now.case.now.book.now in
    let own = subst (λ ns. Numbers b ns fs) (sym c.numbers-numbers.ensures) m in (
      λ e. ((c.calls_here.ensures path got gs n).0 c.if-calls_here.false, (c.calls_at_one.ensures path got fs gs own n).0 (untrue _ e)),
      λ each. ap not ((c.calls_at_one.ensures path got fs gs own n).1 each.1),
    )
