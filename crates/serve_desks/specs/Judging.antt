-- How later filings are judged.
use Rattle.std.specs.Prelude.{◌≡◌, ℕ, ◌+◌, List, [], ◌∷◌, ◌++◌, length}
use Rattle.fare_law.specs.declared.filings.Filing.{Filing}
use Rattle.fare_law.specs.Book.{Timetable}
use Rattle.fare_law.specs.Faults.{Fault}
use Rattle.fare_versions.specs.Filings.{IsFaultless}
use Rattle.serve_desks.specs.declared.log.Filed.{Filed}
use Rattle.serve_desks.specs.declared.log.Filed.TheVariants.{Accepted, Refused}

-- after these entries one filing was judged so, and these entries came of it
abbrev pub OneJudged : Timetable → List Filing → Filing → Filed → List Filing → Type 0
OneJudged t start f (Accepted n) end = IsFaultless (record { timetable = t; entries = start }) f × (n ≡ length start + 1) × (end ≡ start ++ f ∷ [])
OneJudged t start f (Refused r) end = Fault (record { timetable = t; entries = start }) f r.action r.why × (end ≡ start)

-- from these entries on, the filings were judged so, and these entries came of it
abbrev pub Judged : Timetable → List Filing → List Filing → List Filed → List Filing → Type 0
Judged t start [] [] end = end ≡ start
Judged t start (f ∷ fs) (Accepted n ∷ js) end = IsFaultless (record { timetable = t; entries = start }) f × (n ≡ length start + 1) × Judged t (start ++ f ∷ []) fs js end
Judged t start (f ∷ fs) (Refused r ∷ js) end = Fault (record { timetable = t; entries = start }) f r.action r.why × Judged t start fs js end
Judged t start [] (j ∷ js) end = ⊥
Judged t start (f ∷ fs) [] end = ⊥

-- how many of these were accepted
abbrev pub accepted : List Filed → ℕ
accepted [] = 0
accepted (Accepted n ∷ js) = accepted js + 1
accepted (Refused r ∷ js) = accepted js
