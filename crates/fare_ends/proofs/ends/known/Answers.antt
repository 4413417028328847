use Rattle.std.proofs.Common.{◌<◌, length, subst, arith}
use Rattle.std.proofs.lemmas.Bool.Decides.{nat_tests}
use Rattle.fare_ends.specs.declared.ends.EndKey.{EndKey}
use Rattle.fare_ends.specs.declared.ends.KeptEnd.{KeptEnd}
use Rattle.fare_law.specs.Lists.{IsIn}
use Rattle.law_lemmas.proofs.Members.{read_in}
use Rattle.fare_ends.proofs.ends.known.Goals as goal

pub returns-then-is : goal.returns-then-is
returns-then-is c =
    let ends = c.args.ends.now in
    let kept = c.in_ok-kept.kept.now in
    let l = c.in_ok-kept.ensures.lookup in
    let t = l.0 in
    let lt : c.in_ok-at.at < length ends = grind (arith, nat_tests, t) in
    subst (λ (k : EndKey). IsIn {X = KeptEnd} (record { key = k; end = kept.end }) ends) (c.is.ensures.0 c.if-is.true) (read_in ends c.in_ok-at.at kept kept lt l.1)
