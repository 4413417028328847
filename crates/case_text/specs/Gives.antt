-- What a reader of rows or of a case answers, against what is spelled.
use Rattle.std.specs.Prelude.{◌≡◌, ◌≢◌, ⊤, ℕ, Result, Ok, Err}
use Rattle.case_text.specs.declared.faults.RowFault.{RowFault}
use Rattle.case_text.specs.declared.faults.RowFault.TheVariants.{BadColumn, Mem}
use Rattle.case_text.specs.declared.faults.CaseFault.{CaseFault}
use Rattle.case_text.specs.declared.faults.CaseFault.TheVariants.{BadRow, Mem as OutOfMemory}

-- what was returned is what is spelled, unless memory ran out
abbrev pub Gives : {A : Type 0} → Result A RowFault → Result A ℕ → Type 0
Gives (Ok a) spelled = spelled ≡ Ok a
Gives (Err (BadColumn column)) spelled = spelled ≡ Err column
Gives (Err Mem) spelled = ⊤

-- the fault is the one that is spelled, or want of memory
abbrev pub Refuses : {A : Type 0} → RowFault → Result A ℕ → Type 0
Refuses (BadColumn column) spelled = spelled ≡ Err column
Refuses Mem spelled = ⊤

-- the same of a case: each fault but want of memory is the one that is spelled
abbrev pub Told : {A : Type 0} → Result A CaseFault → Result A CaseFault → Type 0
Told (Ok a) spelled = spelled ≡ Ok a
Told (Err fault) spelled = fault ≢ OutOfMemory → spelled ≡ Err fault

-- the fault of a case whose row on this line has this one
abbrev pub row_fault : ℕ → RowFault → CaseFault
row_fault line (BadColumn column) = BadRow line column
row_fault line Mem = OutOfMemory
