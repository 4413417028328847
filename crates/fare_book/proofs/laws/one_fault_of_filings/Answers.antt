use Rattle.fare_book.proofs.OneFault.{one_fault}
use Rattle.fare_book.proofs.laws.one_fault_of_filings.Goals as goal

pub returns : goal.returns
returns c = one_fault
