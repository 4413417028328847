use Rattle.std.proofs.Common.{◌≡◌, ◌/◌, ◌%◌, ◌-◌, ◌^◌, ◌+◌, None, Some, sym, ◌∙◌, subst, arith}
use Rattle.ticket_order.proofs.NamesRead.{Digits, IsFound, basis_found, digit_lost, digit_read, digits_none}
use Rattle.ticket_order.proofs.decoding.basis_of.Goals as goal

pub loop-place-init : goal.loop-place-init
loop-place-init c = subst (λ cs. Digits c.args.number 0 cs c.args.number) (sym c.new-characters.ensures) (digits_none c.args.number)

pub returns-in_err-character_of : goal.returns-in_err-character_of
returns-in_err-character_of c =
    let found : IsFound (c.loop-place.rest / 37 ^ (7 - c.loop-place.place)) None = subst (λ u. IsFound (c.loop-place.rest / u) None) c.pow-unit.ensures c.in_err-character_of.ensures in
    λ b. (
      λ e. let n : None ≡ Some b = sym c.from_residual.ensures ∙ e in absurd (cc),
      λ p. absurd (digit_lost c.args.number c.loop-place.place c.loop-place.rest c.loop-place.characters c.loop-place.invariant c.loop-place-test.true c.if-rest-eq0.false found b.0 p.0.1 p.0.2 p.1),
    )

pub loop-place-preserved : goal.loop-place-preserved
loop-place-preserved c =
    let found : IsFound (c.loop-place.rest / 37 ^ (7 - c.loop-place.place)) (Some c.in_ok-character_of.field-0) =
    subst (λ u. IsFound (c.loop-place.rest / u) (Some c.in_ok-character_of.field-0)) c.pow-unit.ensures c.in_ok-character_of.ensures in
    let d = digit_read c.args.number c.loop-place.place c.loop-place.rest c.loop-place.characters c.loop-place.invariant c.loop-place-test.true c.in_ok-character_of.field-0 c.if-rest-eq0.false found in
    subst (λ u. Digits c.args.number (c.loop-place.place + 1) c.push.new.self (c.loop-place.rest % u)) (sym c.pow-unit.ensures)
    (subst (λ cs. Digits c.args.number (c.loop-place.place + 1) cs (c.loop-place.rest % 37 ^ (7 - c.loop-place.place))) (sym c.push.ensures) d)

pub returns : goal.returns
returns c =
    basis_found c.args.number c.loop-place.place c.loop-place.characters (subst (Digits c.args.number c.loop-place.place c.loop-place.characters) c.if-rest-ne0.false c.loop-place.invariant) (omega arith) c.if-number-eq0.false
