use Rattle.std.proofs.Common.{None, subst, sym}
use Rattle.outlines.specs.Marks.{mark_of}
use Rattle.search_steps.specs.Listing.{IsListed}
use Rattle.search_steps.proofs.ListedSteps.{steps_added, steps_passed}
use Rattle.search_steps.proofs.ListsByNumber.{grows_same}
use Rattle.search_steps.proofs.listing.add_bare.Goals as goal

pub returns-in_ok-push : goal.returns-in_ok-push
returns-in_ok-push c t bare =
    let e = c.args.entry.now in
    steps_added t t (IsListed c.args.listing.now) e (mark_of e None) c.args.bare.now c.args.steps.now.items c.push.new.self.items (grows_same t) (c.stands_bare.ensures.0 c.if-stands_bare.true) (λ m h. sym (c.requires.bare m h)) bare c.in_ok-push.ensures.items

pub returns-else-stands_bare : goal.returns-else-stands_bare
returns-else-stands_bare c t bare =
    let e = c.args.entry.now in
    let Is = IsListed c.args.listing.now in
    let not = c.if-stands_bare.false in
    steps_passed t Is e c.args.steps.now.items (λ m h. let is = c.stands_bare.ensures.1 (subst (Is e) (c.requires.bare m h) h) in cc)
