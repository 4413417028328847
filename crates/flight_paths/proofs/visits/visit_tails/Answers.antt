use Rattle.flight_paths.specs.Heads.{AreRest, AreRestOf, Saw, chosen}
use Rattle.flight_paths.specs.Plans.{plan_book}
use Rattle.flight_paths.proofs.Seeing.{on_ok, saw_more}
use Rattle.flight_paths.proofs.Ranging.{IsTwo, counts, two_parts}
use Rattle.flight_paths.proofs.visits.visit_tails.Goals as goal

pub returns : goal.returns
returns g c =
    let b = plan_book c.args.junction.now.schedule.now in
    let sl = c.args.junction.now.slices.now in
    let at = c.args.junction.now.start.now in
    let h = c.args.junction.now.head.now in
    let ts = chosen c.args.tails.now.all.now c.args.tails.now.numbers.now in
    let old = g.V.PathVisitor.told c.args.visitor.now in
    let one = g.V.PathVisitor.told c.visit_count.new.visitor in
    let two = g.V.PathVisitor.told c.visit_count-2.new.visitor in
    let three = g.V.PathVisitor.told c.visit_count-3.new.visitor in
    let P1 = AreRestOf b sl at h ts 1 in
    let P2 = AreRestOf b sl at h ts 2 in
    let both = saw_more old one two P1 P2 (IsTwo b sl at h ts) c.in_ok-visit_count.ensures c.in_ok-visit_count-2.ensures (λ ps qs p q. two_parts b sl at h ts ps qs p q) in
    on_ok (Saw two three (AreRestOf b sl at h ts 3)) (Saw old three (AreRest b sl at h ts)) c.visit_count-3.result c.visit_count-3.ensures
    (λ s. saw_more old two three (IsTwo b sl at h ts) (AreRestOf b sl at h ts 3) (AreRest b sl at h ts) both s (λ ps rs p r. counts b sl at h ts ps rs c.requires.tails p r))
