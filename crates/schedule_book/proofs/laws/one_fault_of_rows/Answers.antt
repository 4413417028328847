use Rattle.schedule_book.proofs.OneFault.{one_fault, right_has_none}
use Rattle.schedule_book.proofs.laws.one_fault_of_rows.Goals as goal

pub returns-clause-one : goal.returns-clause-one
returns-clause-one c = one_fault

pub returns-clause-none : goal.returns-clause-none
returns-clause-none c = right_has_none
