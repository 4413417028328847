use Rattle.std.proofs.Common.{Err, sym, ap, ◌∙◌}
use Rattle.fare_law.specs.declared.filings.Action.TheVariants.{PutSeats}
use Rattle.fare_law.specs.declared.filings.BookWhy.TheVariants.{Limit}
use Rattle.fare_law.specs.Book.{live_seats}
use Rattle.seat_classes.specs.Held.{HasNoRoom}
use Rattle.fare_book.proofs.Following.{seats_put_after}
use Rattle.fare_book.proofs.SeatKeeping.{live_rows, no_full, rows_live, seats_put}
use Rattle.fare_book.proofs.Stops.{faultless, only, put_seats_limit}
use Rattle.fare_book.proofs.seat_actions.put_in.Goals as goal

pub returns-in-Ok : goal.returns-in-Ok
returns-in-Ok c = λ b next kept f.
    let key = c.args.key.now in
    let seats = c.args.seats.now in
    let held = c.args.held.now in
    let new = c.put.new.self in
    let room = λ (none : HasNoRoom held key). no_full c.in-Ok.field-0 (c.in-Ok.ensures.full.1 none) in (
      seats_put (live_seats b) (live_seats next) held new key kept seats c.in-Ok.ensures.row (seats_put_after b next key seats f) room,
      faultless b (PutSeats key seats) Limit (put_seats_limit b key seats) (λ full. room (kept.seats_are key ∙ full.0, rows_live (live_seats b) (live_seats next) held new key kept 200000 full.1)),
    )

pub returns-in-Err-Full : goal.returns-in-Err-Full
returns-in-Err-Full c = λ b kept.
    let key = c.args.key.now in
    let seats = c.args.seats.now in
    let held = c.args.held.now in
    let none : HasNoRoom held key = c.in-Err-Full.ensures.full.0 (ap Err c.in-Err-Full.field-0-is) in
    only b (PutSeats key seats) Limit (put_seats_limit b key seats) (sym (kept.seats_are key) ∙ none.0, live_rows (live_seats b) (live_seats b) held held key kept 200000 none.1)
