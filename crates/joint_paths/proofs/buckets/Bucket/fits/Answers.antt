use Rattle.std.proofs.Common.{◌≤◌, refl, subst, sym, arith}
use Rattle.fare_law.specs.declared.limits.TheConstants.{MOST_FLIGHTS_OF_A_COMPONENT}
use Rattle.joint_paths.proofs.HeadFacts.{apart_tells, few_enough, fits_follow, marks_tell}
use Rattle.joint_paths.proofs.buckets.Bucket.fits.Goals as goal

pub returns : goal.returns
returns c =
    let h = c.args.head.now in
    let t = c.args.tail.now in
    let tail = c.requires.tail in
    let few = tail.short.few in
    let own : t.count ≤ MOST_FLIGHTS_OF_A_COMPONENT = subst (λ n. n ≤ MOST_FLIGHTS_OF_A_COMPONENT) (sym tail.count) (omega (arith, few)) in
    apart_tells c.args.self.now c.requires.bucket h c.requires.head t tail c.is_apart.result (few_enough h.count t.count c.room_before.result own c.room_before.ensures c.if-head-room_before.false) c.if-tail-head.false c.if-head-tail.false c.is_apart.ensures

pub returns-then-head-tail-eq0 : goal.returns-then-head-tail-eq0
returns-then-head-tail-eq0 c =
    let h = c.args.head.now in
    let t = c.args.tail.now in
    let tail = c.requires.tail in
    let few = tail.short.few in
    let own : t.count ≤ MOST_FLIGHTS_OF_A_COMPONENT = subst (λ n. n ≤ MOST_FLIGHTS_OF_A_COMPONENT) (sym tail.count) (omega (arith, few)) in
    (λ e. fits_follow c.args.self.now c.requires.bucket h c.requires.head t tail (few_enough h.count t.count c.room_before.result own c.room_before.ensures c.if-head-room_before.false) c.if-tail-head.false c.if-head-tail.false (marks_tell c.args.self.now c.requires.bucket h c.requires.head t tail c.if-head-tail-eq0.true), λ f. refl)
