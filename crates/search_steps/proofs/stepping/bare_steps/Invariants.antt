use Rattle.std.proofs.Common.{take}
use Rattle.residual_table.specs.Keys.{Grows}
use Rattle.search_steps.specs.Numbers.{AreBare}
use Rattle.search_steps.proofs.stepping.bare_steps.Given as goal

abbrev pub invariant-loop-entry : goal.invariant-loop-entry
invariant-loop-entry l = record {
  steps : AreBare l.numbers (take l.entry-index l.entries) l.steps.items;
  grows : Grows l.initial.numbers l.numbers;
}
