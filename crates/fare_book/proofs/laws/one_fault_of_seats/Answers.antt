use Rattle.fare_book.proofs.OneFault.{one_repeat, seats_right}
use Rattle.fare_book.proofs.laws.one_fault_of_seats.Goals as goal

pub returns-clause-one : goal.returns-clause-one
returns-clause-one c = one_repeat

pub returns-clause-none : goal.returns-clause-none
returns-clause-none c = seats_right
