use Rattle.std.proofs.Common.{◌≡◌, Bool, ℕ, suc, ◌+◌, refl, sym, subst, arith}
use Rattle.fare_law.specs.declared.names.Place.{Place}
use Rattle.fare_law.specs.Book.{Book}
use Rattle.flight_paths.specs.Heads.{AreReached, AreSomeTails, HasTails, Saw, chosen}
use Rattle.flight_paths.specs.Plans.{HasPlan, plan_book}
use Rattle.flight_paths.proofs.AnyBook.{alike_back, alike_plan}
use Rattle.flight_paths.proofs.Seeing.{on_ok, saw_like}
use Rattle.flight_paths.proofs.Tailed.{has_any, reached_any}
use Rattle.flight_paths.proofs.visits.visit_paths.Goals as goal

one_more : (n : ℕ) → n + 1 ≡ suc n
one_more n = omega arith

pub visit_heads-requires-clause-tails : goal.visit_heads-requires-clause-tails
visit_heads-requires-clause-tails g c =
    let b = plan_book c.args.schedule.now in
    let h = c.requires.tails b (record { places = refl; flights = refl }) in
    subst (λ sl. AreSomeTails b sl (suc c.args.position.now.slice) (chosen c.args.tails.now.all.now c.args.tails.now.numbers.now)) (sym c.as_slice-slices.ensures.items)
    (subst (λ i. AreSomeTails b c.args.request.now.slices i (chosen c.args.tails.now.all.now c.args.tails.now.numbers.now)) (one_more c.args.position.now.slice) h)

pub returns : goal.returns
returns g c =
    let plan = c.args.schedule.now in
    let sl = c.args.request.now.slices in
    let at = c.args.position.now in
    let ts = chosen c.args.tails.now.all.now c.args.tails.now.numbers.now in
    let old = g.V.PathVisitor.told c.args.visitor.now in
    let new = g.V.PathVisitor.told c.visit_heads.new.visitor in
    on_ok ((wanted : Place → Bool) → HasTails (plan_book plan) c.as_slice-slices.result.now (suc at.slice) wanted ts → Saw old new (AreReached (plan_book plan) c.as_slice-slices.result.now at wanted))
    ((b : Book) → HasPlan b plan → (wanted : Place → Bool) → HasTails b sl (at.slice + 1) wanted ts → Saw old new (AreReached b sl at wanted)) c.visit_heads.result c.visit_heads.ensures
    (λ s b k wanted all.
    let there = has_any b (plan_book plan) (alike_back (plan_book plan) b (alike_plan b plan k)) sl (suc at.slice) wanted ts (subst (λ i. HasTails b sl i wanted ts) (one_more at.slice) all) in
    let has = subst (λ x. HasTails (plan_book plan) x (suc at.slice) wanted ts) (sym c.as_slice-slices.ensures.items) there in
    saw_like old new (AreReached (plan_book plan) c.as_slice-slices.result.now at wanted) (AreReached b sl at wanted) (s wanted has)
    (λ ps a. reached_any (plan_book plan) b (alike_plan b plan k) sl at wanted ps (subst (λ x. AreReached (plan_book plan) x at wanted ps) c.as_slice-slices.ensures.items a)))
