-- The cause of a filing that is refused.
use Rattle.std.proofs.Common.{◌<◌, length}
use Rattle.fare_law.specs.declared.filings.Filing.{Filing}
use Rattle.fare_law.specs.Book.{Book}
use Rattle.fare_book.specs.Taking.{HasCause, StopsAt}
use Rattle.fare_book.specs.declared.faults.BookFault.{BookFault}
use Rattle.fare_book.specs.declared.faults.BookFault.TheVariants.{Refused, Mem}
use Rattle.fare_law.specs.declared.limits.TheConstants.{MOST_ENTRIES}
use Rattle.fare_book.proofs.TakingLemmas.{filing_fault}

pub cause_told : (b : Book) (filing : Filing) (fault : BookFault) → length b.entries < MOST_ENTRIES → StopsAt b filing.actions fault → HasCause b filing fault
cause_told b filing (Refused r) few stops = filing_fault b filing r few stops
cause_told b filing Mem few stops = tt
