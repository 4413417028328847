use Rattle.std.proofs.Common.{◌≤◌, ◌-◌, ◌<◌, length, take, drop, sym, ap, subst, ◌∙◌, arith}
use Rattle.schedule_book.specs.Departures.{AreDepartures, packed}
use Rattle.schedule_book.proofs.Packing.{Point, part_departs, points_turn}
use Rattle.schedule_book.proofs.departures.Departures.between.Goals as goal

pub overflow_sub-end : goal.overflow_sub-end
overflow_sub-end c =
    let keys = c.args.self.now.keys.items in
    let a = c.find-first.result in
    let b = c.find-end.result in
    let order : c.args.lo < c.args.hi = omega arith in
    let p : Point keys (packed (c.args.place, c.args.lo)) a = subst (λ k. Point keys k a) c.packed.ensures.value c.find-first.ensures.point in
    let q : Point keys (packed (c.args.place, c.args.hi)) b = subst (λ k. Point keys k b) c.packed-2.ensures.value c.find-end.ensures.point in
    let al : a ≤ length keys = c.find-first.ensures.bound in
    let bl : b ≤ length keys = c.find-end.ensures.bound in
    points_turn c.args.flights.now keys c.args.self.now.numbers.items c.requires c.args.place c.args.lo c.args.hi a b order c.packed.ensures.key c.packed-2.ensures.key al bl p q

pub returns : goal.returns
returns c =
    let keys = c.args.self.now.keys.items in
    let a = c.find-first.result in
    let b = c.find-end.result in
    let order : c.args.lo < c.args.hi = omega arith in
    let p : Point keys (packed (c.args.place, c.args.lo)) a = subst (λ k. Point keys k a) c.packed.ensures.value c.find-first.ensures.point in
    let q : Point keys (packed (c.args.place, c.args.hi)) b = subst (λ k. Point keys k b) c.packed-2.ensures.value c.find-end.ensures.point in
    let al : a ≤ length keys = c.find-first.ensures.bound in
    let bl : b ≤ length keys = c.find-end.ensures.bound in
    let part = part_departs c.args.flights.now keys c.args.self.now.numbers.items c.requires c.args.place c.args.lo c.args.hi a b order c.packed.ensures.key c.packed-2.ensures.key al bl p q in
    let is = c.split_at-2.ensures.front ∙ ap (take (b - a)) (c.split_at.ensures.back ∙ ap (drop a) c.as_slice.ensures.value) in
    subst (AreDepartures c.args.flights.now c.args.place c.args.lo c.args.hi) (sym is) part
