use Rattle.std.proofs.Common.{IsSome, subst}
use Rattle.fare_law.specs.declared.filings.Action.TheVariants.{DropSeats}
use Rattle.fare_law.specs.declared.filings.BookWhy.TheVariants.{NoSeats}
use Rattle.fare_law.specs.Book.{live_seats}
use Rattle.fare_book.proofs.Following.{seats_dropped_after}
use Rattle.fare_book.proofs.SeatKeeping.{none_some, seats_dropped}
use Rattle.fare_book.proofs.Stops.{dropped_seats, faultless}
use Rattle.fare_book.proofs.seat_actions.drop_from.Goals as goal

pub returns-then-drop_row : goal.returns-then-drop_row
returns-then-drop_row c = λ b next kept f.
    let key = c.args.key.now in
    let had : IsSome (live_seats b key) = subst IsSome (kept.seats_are key) (c.drop_row.ensures.found.0 c.if-drop_row.true) in (
      seats_dropped (live_seats b) (live_seats next) c.args.held.now c.drop_row.new.self key kept c.drop_row.ensures.row (seats_dropped_after b next key f),
      faultless b (DropSeats key) NoSeats (dropped_seats b key) (λ none. none_some (live_seats b key) none had),
    )
