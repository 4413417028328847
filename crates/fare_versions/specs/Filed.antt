-- Why a filing isn't published.
use Rattle.fare_law.specs.Book.{Book}
use Rattle.fare_law.specs.Faults.{Fault}
use Rattle.fare_law.specs.declared.filings.Filing.{Filing}
use Rattle.fare_book.specs.declared.faults.BookFault.{BookFault}
use Rattle.fare_book.specs.declared.faults.BookFault.TheVariants.{Refused as BookRefused, Mem as BookMem}
use Rattle.fare_versions.specs.declared.faults.FileFault.{FileFault}
use Rattle.fare_versions.specs.declared.faults.FileFault.TheVariants.{Refused, Mem}

-- a refusal is the filing's fault in this book
abbrev pub HasCause : Book → Filing → FileFault → Type 0
HasCause b filing (Refused r) = Fault b filing r.action r.why
HasCause b filing Mem = Unit {0}

-- a book's fault, as a clerk's
abbrev pub fault_of : BookFault → FileFault
fault_of (BookRefused r) = Refused r
fault_of BookMem = Mem
