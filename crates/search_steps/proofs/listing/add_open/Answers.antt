use Rattle.std.proofs.Common.{Some, refl}
use Rattle.outlines.specs.Marks.{mark_of}
use Rattle.search_steps.specs.Listing.{IsListed}
use Rattle.search_steps.proofs.ListedSteps.{goes_on, mark_step, no_mark, one_mark, open_not, steps_added, steps_passed}
use Rattle.search_steps.proofs.listing.add_open.Goals as goal

pub returns-then-bare-eq0-clause-steps : goal.returns-then-bare-eq0-clause-steps
returns-then-bare-eq0-clause-steps c = open_not c.args.numbers.now c.args.listing.now c.args.entry.now c.args.bare.now c.args.steps.now.items c.requires.bare c.if-bare-eq0.true c.requires.is_open

pub returns-in_ok-push-clause-steps : goal.returns-in_ok-push-clause-steps
returns-in_ok-push-clause-steps c =
    let t = c.args.numbers.now in
    let u = c.unit_slot.new.self in
    let l = c.args.listing.now in
    let e = c.args.entry.now in
    let bare = c.args.bare.now in
    let after = goes_on t e bare c.requires.bare c.if-bare-eq0.false in
    let unit = c.in-Some.unit in
    let listed = (c.unit_after.ensures.unit after unit).0 c.in-Some.is in
    let grows = c.unit_slot.ensures.grows in
    steps_added t u (IsListed l) e (mark_of e (Some unit)) (record bare { unit = c.in_ok-unit.unit }) c.args.steps.now.items c.push.new.self.items grows listed (one_mark l e c.unit_after.result unit c.requires.is_open (c.unit_after.ensures.unit after) c.in-Some.is)
    (mark_step t u l e (mark_of e (Some unit)) bare (record bare { unit = c.in_ok-unit.unit }) grows c.requires.bare listed c.in_ok-unit.ensures.slot refl) c.in_ok-push.ensures.items

pub returns-in_default-clause-steps : goal.returns-in_default-clause-steps
returns-in_default-clause-steps c =
    let l = c.args.listing.now in
    let e = c.args.entry.now in
    let after = goes_on c.args.numbers.now e c.args.bare.now c.requires.bare c.if-bare-eq0.false in
    steps_passed c.args.numbers.now (IsListed l) e c.args.steps.now.items (no_mark l e c.requires.is_open (λ w h. c.in_default.not-Some w ((c.unit_after.ensures.unit after w).1 h)))
