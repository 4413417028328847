use Rattle.std.proofs.Common.{slice_range, subst, sym}
use Rattle.std.proofs.lemmas.Result.{on_ok_weaker}
use Rattle.search_steps.specs.declared.numbered.UnitSteps.{UnitSteps}
use Rattle.search_steps.specs.Giving.{UnitBy}
use Rattle.search_steps.specs.Numbers.{AddsAll}
use Rattle.search_steps.specs.Placed.{AddsOfUnit}
use Rattle.search_steps.proofs.ListsByNumber.{got_there}
use Rattle.search_steps.proofs.keyed.add_second.Goals as goal

pub returns-in-Some : goal.returns-in-Some
returns-in-Some c =
    let l = c.args.lists.now in
    let s = c.index-unit.result.now in
    let old = c.args.found.now.items in
    let new = c.add_of_second.new.found.items in
    on_ok_weaker c.add_of_second.result
    (λ g. subst (λ at. AddsOfUnit (λ r. UnitBy r 1) c.args.key l at old new) (sym c.in-Some.is)
    (λ u e. subst (λ (z : UnitSteps). AddsAll (λ r. UnitBy r 1) c.args.key (slice_range l.unit_steps.items z.begin z.end) old new) (got_there l.units.items c.in-Some.at s u c.index-unit.ensures e)
    (subst (λ all. AddsAll (λ r. UnitBy r 1) c.args.key (slice_range all s.begin s.end) old new) c.deref.ensures.value g))) c.add_of_second.ensures
