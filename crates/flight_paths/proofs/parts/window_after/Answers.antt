use Rattle.std.proofs.Common.{◌≡◌, ℕ, suc, ◌+◌, slice_get, Some, None, sym, ap, subst, ◌∙◌, arith}
use Rattle.flight_paths.specs.Plans.{plan_book}
use Rattle.flight_paths.specs.Positions.{before_slice, position_before}
use Rattle.flight_paths.proofs.Places.{get_none}
use Rattle.law_lemmas.proofs.Lists.{got_read}
use Rattle.flight_paths.proofs.parts.window_after.Goals as goal

one_more : (i : ℕ) → i + 1 ≡ suc i
one_more i = omega arith

pub returns-in-Some : goal.returns-in-Some
returns-in-Some c =
    let b = plan_book c.args.schedule.now in
    let sl = c.args.slices.now in
    let i = c.args.start.now.slice in
    let next = c.in-Some.next.now in
    let found = c.in-Some.ensures.lookup.3 in
    let is : slice_get sl (i + 1) ≡ Some next = got_read sl (i + 1) next found.0 ∙ ap Some (sym (found.1 next)) in
    ap Some (c.position_before.ensures.position ∙ ap (λ k. position_before b k next None) (one_more i)) ∙ sym (ap (λ o. before_slice b (suc i) o None) (subst (λ k. slice_get sl k ≡ Some next) (one_more i) is))

pub returns-in-None : goal.returns-in-None
returns-in-None c =
    let b = plan_book c.args.schedule.now in
    let sl = c.args.slices.now in
    let i = c.args.start.now.slice in
    let is = get_none sl (i + 1) c.in-None.ensures.lookup.3 in
    sym (ap (λ o. before_slice b (suc i) o None) (subst (λ k. slice_get sl k ≡ None) (one_more i) is))
