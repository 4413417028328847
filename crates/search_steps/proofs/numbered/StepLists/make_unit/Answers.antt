use Rattle.std.proofs.Common.{Some, refl, subst}
use Rattle.std.proofs.lemmas.Result.{on_ok_weaker}
use Rattle.residual_table.specs.Keys.{IsSlot}
use Rattle.search_steps.specs.Listing.{IsListed}
use Rattle.search_steps.specs.Numbers.{AreStepsOf}
use Rattle.search_steps.proofs.Kept.{table_is}
use Rattle.search_steps.proofs.ListsByNumber.{lists_stay, slot_stays}
use Rattle.search_steps.proofs.numbered.StepLists.make_unit.Goals as goal

pub returns-clause-right : goal.returns-clause-right
returns-clause-right c =
    let ts = c.args.tables.now.kept.items in
    lists_stay c.args.case.now.request.now ts ts c.make_list.new.numbers c.args.self.now _ c.make_list.ensures.grows (λ i x y. y) refl refl refl refl c.requires.right

pub returns-clause-made : goal.returns-clause-made
returns-clause-made c =
    let u = c.in-Some.unit in
    let t = c.index-table.result.now in
    let old = c.args.self.now.numbers in
    let new = c.make_list.new.numbers in
    let steps = c.make_list.new.steps.items in
    let found = table_is c.args.case.now.book.now c.args.case.now.request.now c.args.tables.now.kept.items c.args.key.place t c.requires.tables.tables c.requires.place c.index-table.ensures in
    on_ok_weaker c.make_list.result
    (λ g. record {
      table = t;
      stands = found.0;
      unit = u;
      slot = slot_stays old.units new.units c.args.key.slot (Some u) c.make_list.ensures.grows.units (subst (IsSlot old.units c.args.key.slot) c.in-Some.is c.unit_in.ensures.slot);
      steps = subst (λ l. AreStepsOf new (IsListed l) t.entries steps) c.listing-listing.ensures (subst (λ es. AreStepsOf new (IsListed c.listing-listing.result) es steps) c.as_slice.ensures g);
    }) c.make_list.ensures.steps
