use Rattle.std.proofs.Common.{true, false, ◌*◌, ◌+◌, ◌-◌, sym, ap, subst, ◌∙◌, get_or, set}
use Rattle.name_text.proofs.PairLemmas.{From, all_taken, bad_digit, bad_letter, named_twice, none_taken, odd, one_more}
use Rattle.name_text.proofs.seats.seats_in.Goals as goal
use Rattle.name_text.proofs.seats.seats_in.Goals.{then-not-is_ascii_uppercase-via-then-not-is_ascii_uppercase, then-not-is_ascii_uppercase-via-else-not-is_ascii_uppercase+then-not-is_ascii_digit}

pub returns-then-text-eq1-clause-seats : goal.returns-then-text-eq1-clause-seats
returns-then-text-eq1-clause-seats c = odd c.args.text.now c.if-text-eq1.true

pub loop-i-init : goal.loop-i-init
loop-i-init c = none_taken c.args.text.now c.if-text-eq1.false

pub returns-then-not-is_ascii_uppercase-clause-seats : goal.returns-then-not-is_ascii_uppercase-clause-seats
returns-then-not-is_ascii_uppercase-clause-seats c = elim c.then-not-is_ascii_uppercase.branch [
  | then-not-is_ascii_uppercase-via-then-not-is_ascii_uppercase w ↦
      bad_letter c.args.text.now c.loop-i.i c.loop-i-test.true c.loop-i.auto.i (sym c.is_ascii_uppercase.ensures.value ∙ w.if-not-is_ascii_uppercase.true)
  | then-not-is_ascii_uppercase-via-else-not-is_ascii_uppercase+then-not-is_ascii_digit w ↦
      bad_digit c.args.text.now c.loop-i.i c.loop-i-test.true c.loop-i.auto.i (sym w.is_ascii_digit.ensures.value ∙ w.if-not-is_ascii_digit.true)
]

pub returns-then-named-class-clause-seats : goal.returns-then-named-class-clause-seats
returns-then-named-class-clause-seats c =
    named_twice c.args.text.now c.loop-i.i c.loop-i-test.true c.loop-i.auto.i c.loop-i.named c.loop-i.seats c.loop-i.invariant
    (sym c.is_ascii_uppercase.ensures.value ∙ c.if-not-is_ascii_uppercase.false) (sym c.is_ascii_digit.ensures.value ∙ c.if-not-is_ascii_digit.false)
    (ap (λ k. get_or c.loop-i.named k false) (sym c.from-class.ensures) ∙ c.if-named-class.true)

pub loop-i-preserved : goal.loop-i-preserved
loop-i-preserved c =
    let d = get_or c.args.text.now (2 * (c.loop-i.i - 1) + 1) 0 in
    subst (λ k. From c.args.text.now (c.loop-i.i - 1) (set c.loop-i.named k true) (set c.loop-i.seats k (d - 48))) (sym c.from-class.ensures)
    (one_more c.args.text.now c.loop-i.i c.loop-i-test.true c.loop-i.auto.i c.loop-i.named c.loop-i.seats c.loop-i.invariant
    (sym c.is_ascii_uppercase.ensures.value ∙ c.if-not-is_ascii_uppercase.false) (sym c.is_ascii_digit.ensures.value ∙ c.if-not-is_ascii_digit.false)
    (ap (λ k. get_or c.loop-i.named k false) (sym c.from-class.ensures) ∙ c.if-named-class.false))

pub returns-clause-seats : goal.returns-clause-seats
returns-clause-seats c = all_taken c.args.text.now c.loop-i.i c.loop-i.named c.loop-i.seats c.loop-i-test.false c.loop-i.invariant

pub returns-clause-form : goal.returns-clause-form
returns-clause-form c = c.loop-i.invariant.limits
