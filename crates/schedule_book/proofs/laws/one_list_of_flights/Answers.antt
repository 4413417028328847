use Rattle.schedule_book.proofs.OneList.{one_list_of_flights}
use Rattle.schedule_book.proofs.laws.one_list_of_flights.Goals as goal

pub returns : goal.returns
returns c = one_list_of_flights
