use Rattle.std.proofs.Common.{◌+◌, ◌-◌, ◌≤◌, length, suc, take, drop, subst, arith}
use Rattle.fare_law.specs.Lists.{IsIn}
use Rattle.fare_law.specs.declared.limits.TheConstants.{MOST_FLIGHTS_OF_A_COMPONENT}
use Rattle.flight_paths.specs.Heads.{AreRest, AreRestOf, Saw, chosen}
use Rattle.flight_paths.specs.Plans.{plan_book}
use Rattle.flight_paths.proofs.Joining.{tail_count}
use Rattle.flight_paths.proofs.Seeing.{on_ok, saw_like, saw_none}
use Rattle.flight_paths.proofs.Ranging.{all_between, entering, none_between, part_of}
use Rattle.flight_paths.proofs.Choosing.{chosen_part}
use Rattle.flight_paths.proofs.visits.visit_count.Goals as goal

pub returns-then-to-from : goal.returns-then-to-from
returns-then-to-from g c =
    let b = plan_book c.args.junction.now.schedule.now in
    let sl = c.args.junction.now.slices.now in
    let at = c.args.junction.now.start.now in
    let h = c.args.junction.now.head.now in
    let ts = chosen c.args.tails.now.all.now c.args.tails.now.numbers.now in
    let n = c.args.count in
    saw_none (g.V.PathVisitor.told c.args.visitor.now) (AreRestOf b sl at h ts n)
    (none_between b sl at h c.args.junction.now.middle c.requires.crossing ts n c.place_of-from.result c.place_of-to.result c.place_of-from.ensures.point c.place_of-to.ensures.point c.if-to-from.true)

pub visit_each-requires-clause-near : goal.visit_each-requires-clause-near
visit_each-requires-clause-near g c = λ t i.
    let b = plan_book c.args.junction.now.schedule.now in
    let sl = c.args.junction.now.slices.now in
    let at = c.args.junction.now.start.now in
    let h = c.args.junction.now.head.now in
    let all = c.args.tails.now.all.now in
    let ns = c.args.tails.now.numbers.now in
    let ts = chosen all ns in
    let from = c.place_of-from.result in
    let to = c.place_of-to.result in
    let le : from ≤ to = omega (arith, c.if-to-from.false) in
    let room : length h.flights + c.args.count ≤ MOST_FLIGHTS_OF_A_COMPONENT = omega (arith, c.if-len-count-gt-MOST_FLIGHTS_OF_A_COMPONENT.false, c.len.ensures.value) in
    let there : IsIn t (take (to - from) (drop from ts)) = subst (IsIn t) (chosen_part all ns from (to - from) c.requires.numbers) i in
    let some = (tail_count b sl at (suc at.slice) ts c.requires.tails t (part_of ts from (to - from) t there)).0 in
    entering h c.args.junction.now.middle ts c.args.count from to c.place_of-from.ensures.point c.place_of-to.ensures.point le room t some there

pub returns : goal.returns
returns g c =
    let b = plan_book c.args.junction.now.schedule.now in
    let sl = c.args.junction.now.slices.now in
    let at = c.args.junction.now.start.now in
    let h = c.args.junction.now.head.now in
    let all = c.args.tails.now.all.now in
    let ns = c.args.tails.now.numbers.now in
    let ts = chosen all ns in
    let n = c.args.count in
    let from = c.place_of-from.result in
    let to = c.place_of-to.result in
    let le : from ≤ to = omega (arith, c.if-to-from.false) in
    let old = g.V.PathVisitor.told c.args.visitor.now in
    let new = g.V.PathVisitor.told c.visit_each.new.visitor in
    on_ok (Saw old new (AreRest b sl at h (chosen all (take (to - from) (drop from ns))))) (Saw old new (AreRestOf b sl at h ts n)) c.visit_each.result c.visit_each.ensures
    (λ s. saw_like old new (AreRest b sl at h (chosen all (take (to - from) (drop from ns)))) (AreRestOf b sl at h ts n) s
    (λ ps r. all_between b sl at h c.args.junction.now.middle c.requires.crossing ts n from to c.place_of-from.ensures.point c.place_of-to.ensures.point ps le (subst (λ xs. AreRest b sl at h xs ps) (chosen_part all ns from (to - from) c.requires.numbers) r)))
