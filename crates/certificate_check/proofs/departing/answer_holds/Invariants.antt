use Rattle.std.proofs.Common.{ℕ, ◌-◌, ◌*◌, ◌^◌, ◌≤◌, ◌<◌, take}
use Rattle.certificate_check.specs.Drawings.{AreDrawings}
use Rattle.certificate_check.specs.Fronts.{FrontHolds, LeadsTo}
use Rattle.certificate_check.specs.Tables.{IsLater}
use Rattle.certificate_check.proofs.departing.answer_holds.Given as goal

abbrev pub invariant-loop-taken : goal.invariant-loop-taken
invariant-loop-taken l = record {
  later : IsLater l.initial.steps l.steps;
  drawings : AreDrawings l.steps l.table.rows.now l.drawings.kept.items;
  leads : LeadsTo l.initial.steps.case.book.now l.initial.steps.case.request.now (take (l.taken - 1) l.moves) l.residual l.price;
  small : l.price ≤ (l.taken - 1) * 2 ^ 64;
  hold : (n : ℕ) → 1 ≤ n → n < l.taken → FrontHolds l.initial.steps.case.book.now l.initial.steps.case.request.now l.table.rows.now l.answers (take n l.moves);
}
