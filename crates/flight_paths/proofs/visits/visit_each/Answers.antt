use Rattle.std.proofs.Common.{◌≡◌, ◌+◌, ◌-◌, ◌<◌, suc, [], length, take, drop, sym, ap, subst, ◌∙◌, arith}
use Rattle.fare_law.specs.Lists.{Each, IsIn}
use Rattle.flight_paths.specs.Heads.{AreRest, Saw, chosen}
use Rattle.flight_paths.specs.Plans.{plan_book}
use Rattle.flight_paths.proofs.Choosing.{chosen_part, each_drop, each_take, front_none, front_twice, later_part, rest_of}
use Rattle.flight_paths.proofs.Ranging.{part_of}
use Rattle.flight_paths.proofs.Running.{one_more_run, part_tails}
use Rattle.flight_paths.proofs.Seeing.{saw_none, rest_none}
use Rattle.flight_paths.proofs.visits.visit_each.Goals as goal

pub loop-at-init : goal.loop-at-init
loop-at-init g c =
    let b = plan_book c.args.junction.now.schedule.now in
    let sl = c.args.junction.now.slices.now in
    let here = c.args.junction.now.start.now in
    let h = c.args.junction.now.head.now in
    let part = take (c.args.to - c.args.from) (drop c.args.from c.args.tails.now.numbers.now) in
    let told = g.V.PathVisitor.told c.args.visitor.now in
    let zero_left : c.args.from - c.args.from ≡ 0 = omega arith in
    let none = ap (λ n. take n part) zero_left ∙ front_none part in
    record {
      low = omega arith;
      high = c.requires.range.0;
      saw = subst (λ xs. Saw told told (AreRest b sl here h (chosen c.args.tails.now.all.now xs))) (sym none) (saw_none told (AreRest b sl here h []) (rest_none b sl here h));
    }

pub visit_run-requires-clause-near : goal.visit_run-requires-clause-near
visit_run-requires-clause-near g c = λ t i.
    let all = c.args.tails.now.all.now in
    let ns = c.args.tails.now.numbers.now in
    let a = c.args.from in
    let at = c.loop-at.at in
    let to = c.args.to in
    let m = to - a in
    let part = take m (drop a ns) in
    let k = at - a in
    let known : Each (λ x. x < length all) part = each_take (λ x. x < length all) (drop a ns) m (each_drop (λ x. x < length all) ns a c.requires.numbers) in
    let same = rest_of part k ∙ later_part ns a at to c.loop-at.invariant.low c.loop-at.invariant.high in
    let here = subst (λ xs. IsIn t (chosen all xs)) (sym same) i in
    c.requires.near t (part_of (chosen all part) k (length part - k) t (subst (IsIn t) (chosen_part all part k (length part - k) known) here))

pub loop-at-preserved : goal.loop-at-preserved
loop-at-preserved g c =
    let b = plan_book c.args.junction.now.schedule.now in
    let sl = c.args.junction.now.slices.now in
    let here = c.args.junction.now.start.now in
    let h = c.args.junction.now.head.now in
    let all = c.args.tails.now.all.now in
    let ns = c.args.tails.now.numbers.now in
    let a = c.args.from in
    let at = c.loop-at.at in
    let to = c.args.to in
    let part = take (to - a) (drop a ns) in
    let k = at - a in
    let m = c.in_ok-at.field-0 in
    let old = g.V.PathVisitor.told c.args.visitor.now in
    let mid = g.V.PathVisitor.told c.loop-at.visitor in
    let new = g.V.PathVisitor.told c.visit_run.new.visitor in
    let was = c.loop-at.invariant in
    let known : Each (λ x. x < length all) part = each_take (λ x. x < length all) (drop a ns) (to - a) (each_drop (λ x. x < length all) ns a c.requires.numbers) in
    let saw = subst (λ xs. Saw mid new (AreRest b sl here h (chosen all (take m xs)))) (sym (later_part ns a at to was.low was.high)) c.in_ok-at.ensures.saw in
    let more : k + m ≡ (at + m) - a = omega (arith, was.low) in
    let both = one_more_run b sl here h c.args.junction.now.middle c.requires.crossing old mid new all part k m known (part_tails b sl (suc here.slice) all ns a (to - a) c.requires.numbers c.requires.tails) was.saw saw in
    record {
      low = omega (arith, was.low);
      high = omega (arith, was.high, c.in_ok-at.ensures.within, c.loop-at-test.true);
      saw = subst (λ n. Saw old new (AreRest b sl here h (chosen all (take n part)))) more both;
    }

pub returns : goal.returns
returns g c =
    let b = plan_book c.args.junction.now.schedule.now in
    let sl = c.args.junction.now.slices.now in
    let here = c.args.junction.now.start.now in
    let h = c.args.junction.now.head.now in
    let all = c.args.tails.now.all.now in
    let ns = c.args.tails.now.numbers.now in
    let a = c.args.from in
    let to = c.args.to in
    let old = g.V.PathVisitor.told c.args.visitor.now in
    let new = g.V.PathVisitor.told c.loop-at.visitor in
    let was = c.loop-at.invariant in
    let end : c.loop-at.at ≡ to = omega (arith, was.high, c.loop-at-test.false) in
    let whole = ap (λ n. take (n - a) (take (to - a) (drop a ns))) end ∙ front_twice (drop a ns) (to - a) in
    subst (λ xs. Saw old new (AreRest b sl here h (chosen all xs))) whole was.saw
