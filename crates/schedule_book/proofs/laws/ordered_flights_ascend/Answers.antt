use Rattle.schedule_book.proofs.Limited.{ascend}
use Rattle.schedule_book.proofs.laws.ordered_flights_ascend.Goals as goal

pub returns : goal.returns
returns c = ascend
