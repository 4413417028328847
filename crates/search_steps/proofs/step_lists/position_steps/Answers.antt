use Rattle.std.proofs.Common.{◌≡◌, ◌∙◌, Some, ap, length, subst, sym}
use Rattle.fare_law.specs.Days.{IsCalendarDay}
use Rattle.fare_law.specs.Lists.{Each}
use Rattle.outlines.specs.Marks.{IsAlone}
use Rattle.outlines.specs.Outcomes.{EntryWithin}
use Rattle.search_steps.specs.declared.listing.Listing.{Listing}
use Rattle.search_steps.specs.Listing.{IsListed, KeepsUnit}
use Rattle.search_steps.specs.Numbers.{AreBare, AreStepsOf, IsBare}
use Rattle.search_steps.specs.Runs.{AreRuns}
use Rattle.search_steps.proofs.Kept.{has_table, table_is, table_there_at}
use Rattle.search_steps.proofs.ListedSteps.{listed_of, listed_stay}
use Rattle.search_steps.proofs.ListsByNumber.{bare_stay, grows_on, marks_stay}
use Rattle.law_lemmas.proofs.Pairs.{matched_long}
use Rattle.search_steps.proofs.step_lists.position_steps.Goals as goal

pub make_list-requires-clause-sale : goal.make_list-requires-clause-sale
make_list-requires-clause-sale c = subst (λ (l : Listing). IsCalendarDay l.sale) (sym c.listing-doing.ensures) c.requires.request.sale

pub make_list-requires-clause-unit : goal.make_list-requires-clause-unit
make_list-requires-clause-unit c = subst (λ (l : Listing). KeepsUnit l.doing) (sym c.listing-doing.ensures) tt

pub make_list-requires-2-clause-sale : goal.make_list-requires-2-clause-sale
make_list-requires-2-clause-sale c = subst (λ (l : Listing). IsCalendarDay l.sale) (sym c.listing-doing-2.ensures) c.requires.request.sale

pub make_list-requires-2-clause-unit : goal.make_list-requires-2-clause-unit
make_list-requires-2-clause-unit c = subst (λ (l : Listing). KeepsUnit l.doing) (sym c.listing-doing-2.ensures) tt

pub run_lengths-requires : goal.run_lengths-requires
run_lengths-requires c =
    let es = c.as_slice-entries.result.now in
    subst (λ z. length z ≡ length es) (sym c.as_slice.ensures.value) (matched_long (IsBare c.bare_steps.new.numbers) es c.in_ok-bare.bare.items c.in_ok-bare.ensures.steps)

pub make_list-requires-clause-table : goal.make_list-requires-clause-table
make_list-requires-clause-table c =
    let ts = c.find.new.self.kept.items in
    let found = table_is c.args.case.now.book.now c.args.case.now.request.now ts c.in_ok-place.place c.index-table.result.now c.in_ok-place.ensures.right.tables (has_table ts _ c.in_ok-place.place c.in_ok-place.ensures.found) c.index-table.ensures in
    listed_of c.bare_steps.new.numbers _ c.in_ok-bare.bare.items c.as_slice.result.now c.in_ok-runs.runs.items (subst (Each EntryWithin) (sym c.as_slice-entries.ensures) found.1.within) c.in_ok-bare.ensures.steps c.in_ok-runs.ensures c.as_slice.ensures.value c.as_slice-2.ensures.value c.as_slice-3.ensures.value

pub make_list-requires-2-clause-table : goal.make_list-requires-2-clause-table
make_list-requires-2-clause-table c =
    let ts = c.find.new.self.kept.items in
    let found = table_is c.args.case.now.book.now c.args.case.now.request.now ts c.in_ok-place.place c.index-table.result.now c.in_ok-place.ensures.right.tables (has_table ts _ c.in_ok-place.place c.in_ok-place.ensures.found) c.index-table.ensures in
    listed_stay c.bare_steps.new.numbers c.make_list.new.numbers _ c.make_list.ensures.grows
    (listed_of c.bare_steps.new.numbers _ c.in_ok-bare.bare.items c.as_slice.result.now c.in_ok-runs.runs.items (subst (Each EntryWithin) (sym c.as_slice-entries.ensures) found.1.within) c.in_ok-bare.ensures.steps c.in_ok-runs.ensures c.as_slice.ensures.value c.as_slice-2.ensures.value c.as_slice-3.ensures.value)

pub returns-clause-grows : goal.returns-clause-grows
returns-clause-grows c =
    let old = c.args.numbers.now in
    let one = c.bare_steps.new.numbers in
    let two = c.make_list.new.numbers in
    grows_on old two c.make_list-2.new.numbers (grows_on old one two c.bare_steps.ensures.grows c.make_list.ensures.grows) c.make_list-2.ensures.grows

pub returns-clause-steps : goal.returns-clause-steps
returns-clause-steps c =
    let ts = c.find.new.self.kept.items in
    let t = c.index-table.result.now in
    let place = c.in_ok-place.place in
    let old = c.args.numbers.now in
    let one = c.bare_steps.new.numbers in
    let two = c.make_list.new.numbers in
    let new = c.make_list-2.new.numbers in
    let bare = c.in_ok-bare.bare.items in
    let alone = c.make_list.new.steps.items in
    let opening = c.make_list-2.new.steps.items in
    let found = table_is c.args.case.now.book.now c.args.case.now.request.now ts place t c.in_ok-place.ensures.right.tables (has_table ts _ place c.in_ok-place.ensures.found) c.index-table.ensures in
    let at = table_there_at ts c.position_at-at.result place t c.in_ok-place.ensures.found c.index-table.ensures in
    let later = grows_on one two new c.make_list.ensures.grows c.make_list-2.ensures.grows in
    let grows = grows_on old one new c.bare_steps.ensures.grows later in
    let by_alone = subst (λ l. AreStepsOf two (IsListed l) t.entries alone) c.listing-doing.ensures (subst (λ es. AreStepsOf two (IsListed c.listing-doing.result) es alone) c.as_slice-entries.ensures c.in_ok-make_list.ensures.steps) in
    let by_opening = subst (λ l. AreStepsOf new (IsListed l) t.entries opening) c.listing-doing-2.ensures (subst (λ es. AreStepsOf new (IsListed c.listing-doing-2.result) es opening) c.as_slice-entries.ensures c.in_ok-make_list-2.ensures.steps) in
    record {
      table = t;
      stands = found.0;
      at = grows.positions c.args.position t.at (c.position_at-at.ensures ∙ ap Some (sym at));
      alone = marks_stay two new (IsAlone t.at.place c.args.case.now.request.now.sale) t.entries alone c.make_list-2.ensures.grows by_alone;
      opening = by_opening;
      bare = bare_stay one new later t.entries bare (subst (λ es. AreBare one es bare) c.as_slice-entries.ensures c.in_ok-bare.ensures.steps);
      runs = subst (λ es. AreRuns es bare c.in_ok-runs.runs.items) c.as_slice-entries.ensures (subst (λ z. AreRuns c.as_slice-entries.result.now z c.in_ok-runs.runs.items) c.as_slice.ensures.value c.in_ok-runs.ensures);
    }
