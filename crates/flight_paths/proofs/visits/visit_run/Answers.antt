use Rattle.std.proofs.Common.{◌≡◌, ◌+◌, ◌-◌, ◌<◌, suc, drop, get_or, length, take, slice_get, Some, sym, ap, subst, ◌∙◌}
use Rattle.fare_law.specs.Lists.{Each, IsIn}
use Rattle.flight_paths.specs.Heads.{AreRest, chosen}
use Rattle.flight_paths.specs.Plans.{plan_book}
use Rattle.flight_paths.proofs.Choosing.{chosen_part, each_drop, each_take, in_chosen, part_got}
use Rattle.flight_paths.proofs.Ranging.{part_of}
use Rattle.flight_paths.proofs.Running.{part_tails, run_and_one, run_skipped, saw_since}
use Rattle.law_lemmas.proofs.EachOne.{each_in}
use Rattle.law_lemmas.proofs.Lists.{got_read}
use Rattle.law_lemmas.proofs.Members.{in_list}
use Rattle.flight_paths.proofs.visits.visit_run.Goals as goal

pub visit_joined-requires-clause-number : goal.visit_joined-requires-clause-number
visit_joined-requires-clause-number g c =
    let all = c.args.tails.now.all.now in
    let ns = c.args.tails.now.numbers.now in
    let a = c.args.from in
    let m = c.args.to - c.args.from in
    let k = c.skips-skipped.result in
    let n = c.in-Some.number.now in
    let found = c.in-Some.ensures.lookup in
    each_in (λ m. m < length all) ns n c.requires.numbers (part_of ns a m n (subst (λ x. IsIn x (take m (drop a ns))) (sym found.1) (in_list (take m (drop a ns)) k n found.3.0)))

pub visit_joined-requires-clause-tails : goal.visit_joined-requires-clause-tails
visit_joined-requires-clause-tails g c = λ t there.
    let all = c.args.tails.now.all.now in
    let ns = c.args.tails.now.numbers.now in
    let a = c.args.from in
    let m = c.args.to - c.args.from in
    let part = take m (drop a ns) in
    let k = c.skips-skipped.result in
    let n = c.in-Some.number.now in
    let found = c.in-Some.ensures.lookup in
    let here : slice_get part k ≡ Some n = got_read part k n found.3.0 ∙ ap Some (sym found.1) in
    c.requires.tails.each t (part_of (chosen all ns) a m t (subst (IsIn t) (chosen_part all ns a m c.requires.numbers) (in_chosen all part k n t here there)))

pub visit_joined-requires-clause-near : goal.visit_joined-requires-clause-near
visit_joined-requires-clause-near g c = λ t there.
    let all = c.args.tails.now.all.now in
    let part = take (c.args.to - c.args.from) (drop c.args.from c.args.tails.now.numbers.now) in
    let k = c.skips-skipped.result in
    let n = c.in-Some.number.now in
    let found = c.in-Some.ensures.lookup in
    let here : slice_get part k ≡ Some n = got_read part k n found.3.0 ∙ ap Some (sym found.1) in
    c.requires.near t (in_chosen all part k n t here there)

pub returns-in_ok-visit_joined-in-Some-clause-saw :
    goal.returns-in_ok-visit_joined-in-Some-clause-saw
returns-in_ok-visit_joined-in-Some-clause-saw g c =
    let b = plan_book c.args.junction.now.schedule.now in
    let sl = c.args.junction.now.slices.now in
    let at = c.args.junction.now.start.now in
    let h = c.args.junction.now.head.now in
    let all = c.args.tails.now.all.now in
    let ns = c.args.tails.now.numbers.now in
    let a = c.args.from in
    let m = c.args.to - c.args.from in
    let part = take m (drop a ns) in
    let k = c.skips-skipped.result in
    let n = c.in-Some.number.now in
    let old = g.V.PathVisitor.told c.args.visitor.now in
    let mid = g.V.PathVisitor.told c.skips-skipped.new.self in
    let new = g.V.PathVisitor.told c.visit_joined.new.visitor in
    let found = c.in-Some.ensures.lookup in
    let known : Each (λ x. x < length all) part = each_take (λ x. x < length all) (drop a ns) m (each_drop (λ x. x < length all) ns a c.requires.numbers) in
    let within : n < length all = each_in (λ x. x < length all) part n known (subst (λ x. IsIn x part) (sym found.1) (in_list part k n found.3.0)) in
    let t = get_or all n h in
    let there = got_read all n h within in
    saw_since old mid new (AreRest b sl at h (chosen all (take (k + 1) part))) c.skips-skipped.ensures.stays
    (run_and_one b sl at h c.args.junction.now.middle c.requires.crossing mid all new part k n t known (part_tails b sl (suc at.slice) all ns a m c.requires.numbers c.requires.tails)
    (λ i lt x got. c.skips-skipped.ensures.skipped all ns c.requires.knows i lt x (part_got ns a m i x got)) found.3.0 found.1 there (c.in_ok-visit_joined-in-Some.ensures t there))

pub returns-in-None-clause-saw : goal.returns-in-None-clause-saw
returns-in-None-clause-saw g c =
    let b = plan_book c.args.junction.now.schedule.now in
    let sl = c.args.junction.now.slices.now in
    let at = c.args.junction.now.start.now in
    let h = c.args.junction.now.head.now in
    let all = c.args.tails.now.all.now in
    let ns = c.args.tails.now.numbers.now in
    let a = c.args.from in
    let m = c.args.to - c.args.from in
    let part = take m (drop a ns) in
    let k = c.skips-skipped.result in
    let old = g.V.PathVisitor.told c.args.visitor.now in
    let mid = g.V.PathVisitor.told c.skips-skipped.new.self in
    let known : Each (λ x. x < length all) part = each_take (λ x. x < length all) (drop a ns) m (each_drop (λ x. x < length all) ns a c.requires.numbers) in
    let are = part_tails b sl (suc at.slice) all ns a m c.requires.numbers c.requires.tails in
    saw_since old mid mid (AreRest b sl at h (chosen all (take k part))) c.skips-skipped.ensures.stays
    (run_skipped b sl at h c.args.junction.now.middle c.requires.crossing mid all part k (λ i lt x got. c.skips-skipped.ensures.skipped all ns c.requires.knows i lt x (part_got ns a m i x got)) (part_tails b sl (suc at.slice) all part 0 k known are))
