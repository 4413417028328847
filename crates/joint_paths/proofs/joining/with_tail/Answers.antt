use Rattle.std.proofs.Common.{◌≡◌, ◌+◌, [], ◌∷◌, Some, get_or, slice_get, subst}
use Rattle.joint_paths.specs.declared.tail_classes.JoinTail.{JoinTail}
use Rattle.joint_paths.proofs.CostFacts.{down_free, down_kept, not_less}
use Rattle.joint_paths.specs.Joins.{IsJoinedOf, PathsOf, SeekDown}
use Rattle.joint_paths.proofs.JoinSteps.{sought_stays, tail_refused}
use Rattle.law_lemmas.proofs.Lists.{got_is, got_read}
use Rattle.law_lemmas.proofs.Options.{if_ok}
use Rattle.law_lemmas.proofs.Tests.{not_so}
use Rattle.joint_paths.proofs.joining.with_tail.Goals as goal

abbrev no_tail : JoinTail
no_tail = record { number = 0; first = 0; count = 0; classes = 0; mark = 0 }

pub returns-in_default-clause-least : goal.returns-in_default-clause-least
returns-in_default-clause-least c = λ t e.
    let j = c.args.joint.now in
    let s = c.args.sought.now in
    down_free s.rule.now s.rungs.now (PathsOf j j.tails.now) (IsJoinedOf j.bucket.now j.bucket.now.heads.now (t ∷ [])) c.args.least (c.in_default.ensures.none t e)

pub returns-then-not-is_less-clause-least : goal.returns-then-not-is_less-clause-least
returns-then-not-is_less-clause-least c = λ t e.
    let j = c.args.joint.now in
    let s = c.args.sought.now in
    let low = c.in-Some.low in
    down_kept s.rule.now s.rungs.now (PathsOf j j.tails.now) (IsJoinedOf j.bucket.now j.bucket.now.heads.now (t ∷ [])) low c.args.least (c.in-Some.ensures.some t e).floor (not_less c.args.least low (not_so c.is_less.result c.if-not-is_less.true c.is_less.ensures.1))

pub returns-in_default-tail_charges-clause-sought : goal.returns-in_default-tail_charges-clause-sought
returns-in_default-tail_charges-clause-sought c = sought_stays c.args.joint.now c.args.room.now c.tail_charges.new.room c.args.sought.now c.tail_charges.ensures.ruled c.requires.sought

pub returns-in_default-tail_charges-clause-least : goal.returns-in_default-tail_charges-clause-least
returns-in_default-tail_charges-clause-least c = λ t e.
    let j = c.args.joint.now in
    let s = c.args.sought.now in
    down_free s.rule.now s.rungs.now (PathsOf j j.tails.now) (IsJoinedOf j.bucket.now j.bucket.now.heads.now (t ∷ [])) c.args.least (tail_refused j s t (c.in_default-tail_charges.ensures.says t e))

pub returns-then-not-is_less-2-clause-least : goal.returns-then-not-is_less-2-clause-least
returns-then-not-is_less-2-clause-least c = λ t e.
    let j = c.args.joint.now in
    let s = c.args.sought.now in
    let floor = c.in-Some.low + c.in-Some-tail_charges.added in
    down_kept s.rule.now s.rungs.now (PathsOf j j.tails.now) (IsJoinedOf j.bucket.now j.bucket.now.heads.now (t ∷ [])) floor c.args.least ((c.in-Some.ensures.some t e).more c.in-Some-tail_charges.added (c.in-Some-tail_charges.ensures.says t e)) (not_less c.args.least floor (not_so c.is_less-2.result c.if-not-is_less-2.true c.is_less-2.ensures.1))

pub returns-then-not-is_less-2-clause-sought : goal.returns-then-not-is_less-2-clause-sought
returns-then-not-is_less-2-clause-sought c = sought_stays c.args.joint.now c.args.room.now c.tail_charges.new.room c.args.sought.now c.tail_charges.ensures.ruled c.requires.sought

pub with_heads-requires-clause-sought : goal.with_heads-requires-clause-sought
with_heads-requires-clause-sought c = sought_stays c.args.joint.now c.args.room.now c.tail_charges.new.room c.args.sought.now c.tail_charges.ensures.ruled c.requires.sought

pub with_heads-requires-clause-onward : goal.with_heads-requires-clause-onward
with_heads-requires-clause-onward c =
    let ts = c.args.joint.now.tails.now in
    let at = c.args.at in
    let there = got_read ts at no_tail c.requires.tail in
    let t = get_or ts at no_tail in
    record { stands = there; adds = c.in-Some-tail_charges.ensures.says t there; floor = (c.in-Some.ensures.some t there).more c.in-Some-tail_charges.added (c.in-Some-tail_charges.ensures.says t there) }

pub returns-clause-least : goal.returns-clause-least
returns-clause-least c =
    let j = c.args.joint.now in
    let s = c.args.sought.now in
    let ts = j.tails.now in
    let at = c.args.at in
    if_ok c.with_heads.result (SeekDown j s j.bucket.now.heads.now (get_or ts at no_tail ∷ []) c.args.least) (λ r. (t : JoinTail) → slice_get ts at ≡ Some t → SeekDown j s j.bucket.now.heads.now (t ∷ []) c.args.least r)
    (λ r down t e. subst (λ u. SeekDown j s j.bucket.now.heads.now (u ∷ []) c.args.least r) (got_is ts at no_tail t e) down) c.with_heads.ensures.least
