use Rattle.std.proofs.Common.{[], true, subst, ◌∙◌}
use Rattle.search_steps.specs.Giving.{LeftBy, OpenedBy}
use Rattle.search_steps.specs.Numbers.{AddsAll}
use Rattle.search_steps.proofs.ListsByNumber.{got_there, may_stand}
use Rattle.search_steps.proofs.keyed.given_by.Goals as goal

pub add_first-requires-clause-there : goal.add_first-requires-clause-there
add_first-requires-clause-there c = may_stand c.args.lists.now _ c.args.key.first c.args.placed.now.first c.requires.units c.requires.placed.first

pub add_second-requires-clause-there : goal.add_second-requires-clause-there
add_second-requires-clause-there c = may_stand c.args.lists.now _ c.args.key.second c.args.placed.now.second c.requires.units c.requires.placed.second

pub returns : goal.returns
returns c =
    let k = c.args.key in
    let l = c.args.lists.now in
    let p = c.args.placed.now in
    let s = c.index-steps.result.now in
    record {
      one = c.add_alone.new.found.items;
      two = c.add_opening.new.found.items;
      three = c.add_first.new.found.items;
      alone = λ u e.
          subst (λ z. AddsAll (λ r. LeftBy r true r.units) k z.alone.items [] c.add_alone.new.found.items) (got_there l.positions.items p.at s u c.index-steps.ensures e)
          (subst (λ xs. AddsAll (λ r. LeftBy r true r.units) k xs [] c.add_alone.new.found.items) c.as_slice.ensures.value (subst (λ old. AddsAll (λ r. LeftBy r true r.units) k c.as_slice.result.now old c.add_alone.new.found.items) (c.reserve.ensures.items ∙ c.clear.ensures.items) c.in_ok-add_alone.ensures));
      opening = λ u e.
          subst (λ z. AddsAll OpenedBy k z.opening.items c.add_alone.new.found.items c.add_opening.new.found.items) (got_there l.positions.items p.at s u c.index-steps.ensures e)
          (subst (λ xs. AddsAll OpenedBy k xs c.add_alone.new.found.items c.add_opening.new.found.items) c.as_slice-2.ensures.value c.in_ok-add_opening.ensures);
      first = c.in_ok-add_first.ensures;
      second = c.in_ok-add_second.ensures;
    }
