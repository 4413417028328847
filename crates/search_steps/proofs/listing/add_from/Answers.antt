use Rattle.std.proofs.Common.{◌∙◌, [], refl, slice_index_or, subst, sym, take, arith}
use Rattle.fare_law.specs.declared.rules.EndOnEnd.TheVariants.{Free}
use Rattle.law_lemmas.proofs.Lists.{front_read, read_got}
use Rattle.law_lemmas.proofs.Pairs.{matched_long}
use Rattle.search_steps.specs.declared.numbered.Step.{Step}
use Rattle.search_steps.specs.Listing.{IsListed}
use Rattle.search_steps.specs.Numbers.{AreStepsOf, IsBare}
use Rattle.search_steps.specs.Runs.{IsRunAt}
use Rattle.search_steps.specs.Shortening.{HasNoDearer}
use Rattle.search_steps.proofs.ListsByNumber.{bare_at}
use Rattle.search_steps.proofs.RunSteps.{run_idle}
use Rattle.search_steps.proofs.listing.add_from.Goals as goal

pub bounds-table-at-2 : goal.bounds-table-at-2
bounds-table-at-2 c =
    let same = matched_long (IsBare c.args.numbers.now) c.args.table.now.entries.now c.args.table.now.bare.now c.requires.table.bare in
    let lt = c.requires.at in
    omega (arith, same, lt)

pub add_open-requires-clause-bare : goal.add_open-requires-clause-bare
add_open-requires-clause-bare c = bare_at c.args.numbers.now c.args.table.now.entries.now c.args.table.now.bare.now c.args.at _ _ _ c.requires.at refl c.requires.table.bare

-- what is read where nothing is there
abbrev no_step : Step
no_step = record { after = 0; unit = 0; carrier = record { 0 = [] }; ends = Free; price = 0 }

-- what the runs say of the place
run_here : (c : goal.After-from) → IsRunAt c.args.table.now.entries.now c.args.table.now.bare.now c.args.at c.from.result
run_here c =
    let runs = c.requires.table.runs in
    let many = runs.many in
    let lt = c.requires.at in
    runs.each c.args.at c.from.result (read_got c.args.table.now.runs.now c.args.at 0 c.from.result (omega (arith, many, lt)) c.from.ensures)

pub returns-then-is_listed-clause-later : goal.returns-then-is_listed-clause-later
returns-then-is_listed-clause-later c = let some = (run_here c).some in omega (arith, some)

pub returns-then-is_listed-clause-within : goal.returns-then-is_listed-clause-within
returns-then-is_listed-clause-within c = (run_here c).within

pub returns-then-is_listed-clause-steps : goal.returns-then-is_listed-clause-steps
returns-then-is_listed-clause-steps c =
    let t = c.requires.table in
    let es = c.args.table.now.entries.now in
    let bs = c.args.table.now.bare.now in
    run_idle c.args.numbers.now c.args.listing.now es bs c.args.steps.now.items c.args.at c.from.result _ _ (slice_index_or bs c.args.at no_step) no_step t.bare (run_here c) c.requires.at refl refl (sym c.leaves_unit.ensures.by ∙ c.if-leaves_unit.false)
    (subst (λ z. HasNoDearer z (slice_index_or bs c.args.at no_step)) c.as_slice.ensures.value (c.is_listed.ensures c.if-is_listed.true))

pub returns-clause-steps : goal.returns-clause-steps
returns-clause-steps c h =
    let es = c.args.table.now.entries.now in
    let bare = bare_at c.args.numbers.now es c.args.table.now.bare.now c.args.at _ _ _ c.requires.at refl c.requires.table.bare in
    subst (λ xs. AreStepsOf c.args.numbers.now (IsListed c.args.listing.now) xs c.add_bare.new.steps.items) (sym (front_read es c.args.at _ _ c.requires.at refl)) (c.in_ok-add_bare.ensures c.args.numbers.now bare (take c.args.at es) h)
