use Rattle.std.proofs.Common.{◌≡◌, [], ◌∷◌, Some, None, IfSome, length, refl, sym, subst, arith}
use Rattle.joint_paths.specs.declared.rule_charges.RuleCharges.{RuleCharges}
use Rattle.joint_paths.specs.Said.{AreSaid}
use Rattle.joint_paths.proofs.CostFacts.{not_less}
use Rattle.joint_paths.specs.Fits.{IsListed}
use Rattle.joint_paths.specs.Joins.{IsJoinedOf, PathsOf, SeekDown}
use Rattle.joint_paths.specs.Ruled.{SaysOfTailAt}
use Rattle.joint_paths.proofs.JoinSteps.{front_whole, seek_on, sought_stays}
use Rattle.joint_paths.proofs.SeekSteps.{seek_stop}
use Rattle.law_lemmas.proofs.Lists.{got_read, got_within}
use Rattle.law_lemmas.proofs.Tests.{not_so}
use Rattle.joint_paths.proofs.joining.with_heads.Goals as goal

pub listed-requires : goal.listed-requires
listed-requires c =
    let w = got_within c.args.joint.now.tails.now c.args.onward.now.at c.args.onward.now.tail.now c.requires.onward.stands in
    let m = c.requires.room.fits.many in
    omega (arith, w, m)

pub with_fitting-requires-clause-listed : goal.with_fitting-requires-clause-listed
with_fitting-requires-clause-listed c =
    let k = c.args.joint.now.bucket.now in
    let o = c.args.onward.now in
    let room = c.args.room.now in
    let fits = c.requires.room.fits in
    let w = got_within c.args.joint.now.tails.now o.at o.tail.now c.requires.onward.stands in
    let there = got_read room.fitting.tails.items o.at (record { classes = 0; listed = None }) (let m = fits.many in omega (arith, w, m)) in
    subst (λ x. IfSome x (IsListed k o.tail.now room.fitting.heads.items)) (sym (c.in-Some.ensures _ there)) (fits.each o.at o.tail.now _ c.requires.onward.stands there).listed

pub with_few-low-requires-clause-few : goal.with_few-low-requires-clause-few
with_few-low-requires-clause-few c = c.first_few-few.ensures

pub list-requires-clause-place : goal.list-requires-clause-place
list-requires-clause-place c = got_within c.args.joint.now.tails.now c.args.onward.now.at c.args.onward.now.tail.now c.requires.onward.stands

pub returns-then-not-is_less-clause-least : goal.returns-then-not-is_less-clause-least
returns-then-not-is_less-clause-least c =
    let j = c.args.joint.now in
    let k = j.bucket.now in
    let s = c.args.sought.now in
    let o = c.args.onward.now in
    seek_stop s.rule.now s.rungs.now (PathsOf j j.tails.now) (IsJoinedOf k c.first_few-few.result.now (o.tail.now ∷ [])) (IsJoinedOf k k.heads.now (o.tail.now ∷ [])) o.floor c.args.least c.with_few-low.result c.with_few-low.ensures c.requires.onward.floor
    (not_less c.with_few-low.result o.floor (not_so c.is_less.result c.if-not-is_less.true c.is_less.ensures.1))

pub with_fitting-requires-2-clause-sought : goal.with_fitting-requires-2-clause-sought
with_fitting-requires-2-clause-sought c = sought_stays c.args.joint.now c.args.room.now _ c.args.sought.now refl c.requires.sought

pub with_fitting-requires-2-clause-listed : goal.with_fitting-requires-2-clause-listed
with_fitting-requires-2-clause-listed c = c.in_ok-range.ensures.listed c.args.onward.now.tail.now c.requires.onward.stands

pub returns-clause-room : goal.returns-clause-room
returns-clause-room c =
    let j = c.args.joint.now in
    record {
      ruled = c.requires.room.ruled;
      fits = c.list.ensures.fits;
      said = subst (AreSaid (SaysOfTailAt j.bucket.now.case.now.book.now j.fares.now.rules.of.items j.bucket.now.paths.now j.tails.now) (length j.tails.now)) (sym c.list.ensures.charges) c.requires.room.said;
    }

pub returns-clause-sought : goal.returns-clause-sought
returns-clause-sought c = sought_stays c.args.joint.now c.args.room.now _ c.args.sought.now refl c.requires.sought

pub returns-clause-charges : goal.returns-clause-charges
returns-clause-charges c = λ e. subst (λ (x : RuleCharges). x.rule ≡ Some c.args.sought.now.number) (sym c.list.ensures.charges) (c.requires.charges e)

pub returns-clause-least : goal.returns-clause-least
returns-clause-least c = seek_on c.args.joint.now c.args.sought.now c.first_few-few.result.now c.args.onward.now.tail.now c.args.least c.with_few-low.result c.with_fitting-2.result c.with_few-low.ensures c.with_fitting-2.ensures

pub returns-then-few-joint-clause-least : goal.returns-then-few-joint-clause-least
returns-then-few-joint-clause-least c =
    let few = c.first_few-few.result.now in
    let hs = c.args.joint.now.bucket.now.heads.now in
    let same : few ≡ hs = front_whole few hs c.first_few-few.ensures c.if-few-joint.true in
    subst (λ xs. SeekDown c.args.joint.now c.args.sought.now xs (c.args.onward.now.tail.now ∷ []) c.args.least c.with_few-low.result) same c.with_few-low.ensures
