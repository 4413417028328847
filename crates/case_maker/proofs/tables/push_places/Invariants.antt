use Rattle.std.proofs.Common.{◌≡◌, ◌∷◌, [], codes}
use Rattle.case_maker.specs.Drawing.{going_on, each_below}
use Rattle.case_maker.specs.Names.{hub}
use Rattle.case_maker.specs.Tables.{row}
use Rattle.case_maker.proofs.tables.push_places.Given as goal

-- the hubs so far have their rows
abbrev pub invariant-loop-i : goal.invariant-loop-i
invariant-loop-i l = l.page ≡ going_on l.initial.page (each_below l.i (λ i. row (hub i ∷ codes "45" ∷ [])))
