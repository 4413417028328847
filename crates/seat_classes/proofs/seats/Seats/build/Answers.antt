use Rattle.std.proofs.Common.{◌≡◌, [], None, Some, get_or, refl, ap, sym, subst, ◌∙◌, arith}
use Rattle.fare_law.specs.declared.rows.SeatRow.{SeatRow}
use Rattle.fare_law.specs.Book.{row_key}
use Rattle.seat_classes.specs.Held.{Changes, seats_at}
use Rattle.seat_classes.proofs.GivenLemmas.{first_repeat, holds_more}
use Rattle.seat_classes.proofs.HeldLemmas.{changes_from, found_is}
use Rattle.law_lemmas.proofs.Options.{none_told}
use Rattle.seat_classes.proofs.seats.Seats.build.Goals as goal

no_row : SeatRow
no_row = record { line = 0; carrier = record { 0 = [] }; number = 0; from = record { 0 = [] }; day = None; seats = [] }

pub returns-then-is_some-clause-fault : goal.returns-then-is_some-clause-fault
unfolding no_row
returns-then-is_some-clause-fault c =
    let rows = c.args.rows.now in
    let i = c.loop-row.row-index in
    let row : SeatRow = get_or rows i no_row in
    let held = c.loop-row.seats.entries in
    let old : c.in_ok-earlier.earlier ≡ seats_at held (row_key row) = c.in_ok-earlier.ensures.old ∙ found_is held c.of.result ∙ ap (seats_at held) (c.of.ensures ∙ c.row_key.ensures) in
    first_repeat rows i no_row row c.loop-row-test.true refl held c.loop-row.invariant.holds c.in_ok-earlier.earlier old (sym c.is_some.ensures ∙ c.if-is_some.true)

pub loop-row-preserved : goal.loop-row-preserved
unfolding no_row
loop-row-preserved c =
    let rows = c.args.rows.now in
    let i = c.loop-row.row-index in
    let row : SeatRow = get_or rows i no_row in
    let held = c.loop-row.seats.entries in
    let new = c.insert.new.self.entries in
    let none : c.in_ok-earlier.earlier ≡ None = none_told c.in_ok-earlier.earlier (sym c.is_some.ensures ∙ c.if-is_some.false) in
    let absent : seats_at held (row_key row) ≡ None =
    ap (seats_at held) (sym (c.of.ensures ∙ c.row_key.ensures)) ∙ sym (found_is held c.of.result) ∙ sym c.in_ok-earlier.ensures.old ∙ none in
    let changes : Changes held new (row_key row) (Some row.seats) =
    subst (λ k. Changes held new k (Some row.seats)) (c.of.ensures ∙ c.row_key.ensures) (changes_from held new c.of.result (Some row.seats) c.in_ok-earlier.ensures.updates.0) in
    record {
      holds = holds_more rows i no_row row c.loop-row-test.true refl held c.loop-row.invariant.holds new changes absent;
      many = grind (arith, none, c.in_ok-earlier.ensures.len, c.loop-row.invariant.many);
    }
