-- What tellers are asked, and what is right for it.
use Rattle.std.specs.Prelude.{◌≡◌, ℕ, ◌-◌, List, slice_get, Some}
use Rattle.fare_law.specs.Book.{Book, Timetable}
use Rattle.fare_law.specs.declared.filings.Filing.{Filing}
use Rattle.fare_versions.specs.Histories.{House}
use Rattle.serve_desks.specs.declared.log.Body.{Body}
use Rattle.serve_desks.specs.declared.workload.Ask.{Ask}

-- what is asked, and over which timetable
pub record Terms : Type 0 where
  pub asks : List Ask
  pub timetable : Timetable

-- these asks, over the book's timetable
abbrev pub terms_of : List Ask → Book → Terms
terms_of asks b = record { asks = asks; timetable = b.timetable }

-- whether a body is right for an ask, over a timetable and what was filed
abbrev pub Rightness : Type 1
Rightness = Ask → Timetable → List Filing → Body → Type 0

-- the body is right for the ask of this number, counted from 1, and what was filed
abbrev pub IsRight : Rightness → Terms → ℕ → List Filing → Body → Type 0
IsRight right terms request entries body = (ask : Ask) × (slice_get terms.asks (request - 1) ≡ Some ask) × right ask terms.timetable entries body

-- the teller follows this history, is asked this, and wanted no memory so far
abbrev pub IsOf : {T : Type 0} → (T → House) → (T → Terms) → (T → ℕ) → House → Terms → T → Type 0
IsOf house terms wants name all t = (house t ≡ name) × (terms t ≡ all) × (wants t ≡ 0)
