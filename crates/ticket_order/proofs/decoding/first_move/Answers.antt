use Rattle.std.proofs.Common.{◌≡◌, None, Some, refl}
use Rattle.ticket_order.proofs.MovesRead.{lost, move_found, parts_are}
use Rattle.ticket_order.proofs.decoding.first_move.Goals as goal

pub returns-in_err-carrier_of-clause-none : goal.returns-in_err-carrier_of-clause-none
returns-in_err-carrier_of-clause-none c =
    lost c.from_residual-in_err-carrier_of.result _ c.from_residual-in_err-carrier_of.ensures
    (λ m after is e.
    let p = parts_are c.args.numbers.now c.in_ok-flights.flights c.in_ok-flights.rest.now c.in_ok-flights.ensures.some.1 m after e in
    let n : None ≡ Some m.carrier = (c.in_err-carrier_of.ensures m.carrier).1 (is.coded.0, p.carrier) in
    absurd (cc))

pub returns-in_err-basis_of-clause-none : goal.returns-in_err-basis_of-clause-none
returns-in_err-basis_of-clause-none c =
    lost c.from_residual-in_err-basis_of.result _ c.from_residual-in_err-basis_of.ensures
    (λ m after is e.
    let p = parts_are c.args.numbers.now c.in_ok-flights.flights c.in_ok-flights.rest.now c.in_ok-flights.ensures.some.1 m after e in
    let n : None ≡ Some m.basis = (c.in_err-basis_of.ensures m.basis).1 (is.coded.1, p.basis) in
    absurd (cc))

pub returns-in_err-role_of_number-clause-none : goal.returns-in_err-role_of_number-clause-none
returns-in_err-role_of_number-clause-none c =
    lost c.from_residual-in_err-role_of_number.result _ c.from_residual-in_err-role_of_number.ensures
    (λ m after is e.
    let p = parts_are c.args.numbers.now c.in_ok-flights.flights c.in_ok-flights.rest.now c.in_ok-flights.ensures.some.1 m after e in
    let n : None ≡ Some m.role = (c.in_err-role_of_number.ensures m.role).1 p.role in
    absurd (cc))

pub returns-in_err-slot_of-clause-none : goal.returns-in_err-slot_of-clause-none
returns-in_err-slot_of-clause-none c =
    lost c.from_residual-in_err-slot_of.result _ c.from_residual-in_err-slot_of.ensures
    (λ m after is e.
    let p = parts_are c.args.numbers.now c.in_ok-flights.flights c.in_ok-flights.rest.now c.in_ok-flights.ensures.some.1 m after e in
    let n : None ≡ Some m.slot = (c.in_err-slot_of.ensures m.slot).1 (p.slot, is.slot) in
    absurd (cc))

pub returns-clause-some : goal.returns-clause-some
returns-clause-some c =
    move_found c.args.numbers.now c.in_ok-flights.flights c.in_ok-flights.rest.now _ c.in_ok-flights.ensures.some c.in_ok-flights.ensures.few c.in-len4-up.len_at_least refl
    ((c.in_ok-carrier_of.ensures c.in_ok-carrier_of.field-0).0 refl) ((c.in_ok-basis_of.ensures c.in_ok-basis_of.field-0).0 refl) ((c.in_ok-role_of_number.ensures c.in_ok-role_of_number.field-0).0 refl)
    ((c.in_ok-slot_of.ensures c.in_ok-slot_of.field-0).0 refl)
