use Rattle.std.proofs.Common.{◌≡◌, None, ap, sym, ◌∙◌, get_or}
use Rattle.fare_law.specs.Book.{or_else}
use Rattle.seat_classes.specs.Held.{daily_key, dated_key, seats_at}
use Rattle.seat_classes.proofs.Zeros.{daily_seats}
use Rattle.seat_classes.proofs.seats.Seats.seats_of.Goals as goal

pub returns-in-None : goal.returns-in-None
returns-in-None c = λ class.
    let held = c.args.self.now in
    let flight = c.args.flight.now in
    let dated : seats_at held (dated_key flight) ≡ None = ap (seats_at held) (sym c.dated_key.ensures) ∙ sym c.row.ensures ∙ c.in-None.is in
    ap (λ seats. get_or seats class 0) c.unwrap_or.ensures ∙ daily_seats c.row-in-None.result class
    ∙ ap (λ daily. get_or (or_else None daily) class 0) (c.row-in-None.ensures ∙ ap (seats_at held) c.daily_key.ensures)
    ∙ ap (λ o. get_or (or_else o (seats_at held (daily_key flight))) class 0) (sym dated)
