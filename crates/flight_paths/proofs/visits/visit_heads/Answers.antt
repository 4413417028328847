use Rattle.std.proofs.Common.{◌≡◌, ◌+◌, ◌++◌, ◌∷◌, [], take, sym, ap, subst, ◌∙◌}
use Rattle.std.proofs.lemmas.List.{take_all}
use Rattle.fare_law.specs.Lists.{IsIn}
use Rattle.flight_paths.specs.Heads.{AreFrom, AreReached, Saw, chosen}
use Rattle.flight_paths.specs.Plans.{plan_book}
use Rattle.flight_paths.proofs.Apart.{not_before}
use Rattle.flight_paths.proofs.Seeing.{AreSeen, saw_like, saw_more, seen_more, seen_reached}
use Rattle.flight_paths.proofs.Orders.{in_front}
use Rattle.law_lemmas.proofs.Lists.{front_at}
use Rattle.law_lemmas.proofs.Members.{in_list}
use Rattle.flight_paths.proofs.visits.visit_heads.Goals as goal

pub visit_head-requires-clause-head : goal.visit_head-requires-clause-head
visit_head-requires-clause-head g c =
    let hs = c.args.heads.now in
    let h = c.head-item.result in
    let among : IsIn h hs = subst (λ x. IsIn x hs) (sym c.head-item.is) (in_list hs c.loop-head.head-index h c.loop-head-test.true) in
    (c.requires.heads.are h).0 among

pub loop-head-preserved : goal.loop-head-preserved
loop-head-preserved g c =
    let b = plan_book c.args.schedule.now in
    let sl = c.args.slices.now in
    let at = c.args.start.now in
    let hs = c.args.heads.now in
    let ts = chosen c.args.tails.now.all.now c.args.tails.now.numbers.now in
    let i = c.loop-head.head-index in
    let h = c.head-item.result in
    let front : take (i + 1) hs ≡ take i hs ++ h ∷ [] = front_at hs i h c.loop-head-test.true ∙ ap (λ x. take i hs ++ x ∷ []) (sym c.head-item.is) in
    let new : IsIn h (take i hs) → ⊥ = λ k. not_before hs i h c.requires.heads.in_order c.loop-head-test.true (subst (λ x. IsIn x (take i hs)) c.head-item.is k) in
    subst (λ xs. Saw (g.V.PathVisitor.told c.args.visitor.now) (g.V.PathVisitor.told c.visit_head.new.visitor) (AreSeen b sl at ts xs)) (sym front)
    (saw_more (g.V.PathVisitor.told c.args.visitor.now) (g.V.PathVisitor.told c.loop-head.visitor) (g.V.PathVisitor.told c.visit_head.new.visitor) (AreSeen b sl at ts (take i hs)) (AreFrom b sl at h ts) (AreSeen b sl at ts (take i hs ++ h ∷ []))
    c.loop-head.invariant c.in_ok-visit_head.ensures
    (λ ps qs a d. seen_more b sl at ts (take i hs) ps h qs (λ x k. (c.requires.heads.are x).0 (in_front x hs (i + 1) (subst (IsIn x) (sym front) k))) a d new))

pub returns : goal.returns
returns g c = λ wanted all.
    let b = plan_book c.args.schedule.now in
    let sl = c.args.slices.now in
    let at = c.args.start.now in
    let hs = c.args.heads.now in
    let ts = chosen c.args.tails.now.all.now c.args.tails.now.numbers.now in
    saw_like (g.V.PathVisitor.told c.args.visitor.now) (g.V.PathVisitor.told c.loop-head.visitor) (AreSeen b sl at ts (take c.loop-head.head-index hs)) (AreReached b sl at wanted) c.loop-head.invariant
    (λ ps a. seen_reached b sl at wanted ts hs ps c.requires.heads c.requires.tails all (subst (λ xs. AreSeen b sl at ts xs ps) (take_all c.loop-head.head-index hs c.loop-head-test.false) a))
