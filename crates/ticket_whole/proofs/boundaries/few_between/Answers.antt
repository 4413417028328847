use Rattle.std.proofs.Common.{◌≡◌, ◌<◌, ◌+◌, length, get_or, refl, true, sym, subst, arith, List, ℕ}
use Rattle.fare_law.specs.Lawful.{comes_in}
use Rattle.ticket_whole.proofs.LabelsAmong.{Found, found_skip, found_more, third_found, all_found}
use Rattle.ticket_whole.proofs.boundaries.few_between.Goals as goal
use Rattle.ticket_whole.proofs.boundaries.few_between.Goals.{then-not-is_among-via-then-not-is_among, then-not-is_among-via-else-not-is_among+then-is_among}

pub loop-label-preserved-then-not-is_among : goal.loop-label-preserved-then-not-is_among
loop-label-preserved-then-not-is_among c =
    let i = c.loop-label.label-index in
    let before = c.args.before.now in
    let after = c.args.after.now in
    let found = c.loop-label.found in
    let old : comes_in (get_or before i 0) after ≡ true → comes_in (get_or before i 0) found ≡ true = elim c.then-not-is_among.branch [
      | then-not-is_among-via-then-not-is_among w ↦ λ h. let t = c.is_among.ensures.1 h in absurd (cc)
      | then-not-is_among-via-else-not-is_among+then-is_among w ↦ λ h. subst (λ ls. comes_in (get_or before i 0) ls ≡ true) w.as_slice.ensures.items (w.is_among-else-not-is_among.ensures.0 w.if-is_among.true)
    ] in
    found_skip before after found i c.loop-label-test.true old c.loop-label.invariant

pub returns-then-is_full : goal.returns-then-is_full
returns-then-is_full c = (
  λ t. absurd (cc),
  λ few. absurd (third_found c.args.before.now c.args.after.now c.loop-label.found c.loop-label.label-index c.loop-label-test.true (c.is_among.ensures.0 c.if-not-is_among.false)
      (λ h. let t = c.is_among-else-not-is_among.ensures.1 (subst (λ ls. comes_in (get_or c.args.before.now c.loop-label.label-index 0) ls ≡ true) (sym c.as_slice.ensures.items) h) in absurd (cc))
      (c.is_full.ensures.value.0 c.if-is_full.true) c.loop-label.invariant few),
)

pub loop-label-preserved : goal.loop-label-preserved
loop-label-preserved c =
    let i = c.loop-label.label-index in
    let found = c.loop-label.found in
    let room : length found < 2 = let few = c.loop-label.invariant.few in let full = λ (e : length found ≡ 2). (let t = c.is_full.ensures.value.1 e in let no : ⊥ = absurd (cc) in no) in omega (arith, few, full) in
    subst (λ (ls : List ℕ). Found c.args.before.now c.args.after.now ls (i + 1)) (sym c.push.ensures)
    (found_more c.args.before.now c.args.after.now found i c.loop-label-test.true (c.is_among.ensures.0 c.if-not-is_among.false)
    (λ h. let t = c.is_among-else-not-is_among.ensures.1 (subst (λ ls. comes_in (get_or c.args.before.now i 0) ls ≡ true) (sym c.as_slice.ensures.items) h) in absurd (cc)) room c.loop-label.invariant)

pub returns : goal.returns
returns c = (λ t. all_found c.args.before.now c.args.after.now c.loop-label.found c.loop-label.label-index c.loop-label-test.false c.loop-label.invariant, λ h. refl)
