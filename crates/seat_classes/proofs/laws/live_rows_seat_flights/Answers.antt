use Rattle.std.proofs.Common.{ap₂, get_or}
use Rattle.fare_law.specs.Book.{or_else, seats}
use Rattle.seat_classes.specs.Held.{daily_key, dated_key}
use Rattle.seat_classes.proofs.laws.live_rows_seat_flights.Goals as goal

pub returns : goal.returns
unfolding seats
returns c = λ book held same flight class. ap₂ (λ dated daily. get_or (or_else dated daily) class 0) (same (dated_key flight)) (same (daily_key flight))
