use Rattle.std.proofs.Common.{None, arith, subst, sym}
use Rattle.fare_ends.proofs.RungFacts.{share_low}
use Rattle.joint_paths.specs.Heads.{HasOpen}
use Rattle.joint_paths.proofs.JoinSteps.{tail_closed, tail_is_low}
use Rattle.law_lemmas.proofs.Lists.{got_read}
use Rattle.joint_paths.proofs.tail_floors.tail_low.Goals as goal

pub classes-requires : goal.classes-requires
classes-requires c = let m = c.requires.room.fits.many in omega (arith, m, c.requires.tail)

pub overflow_add-result : goal.overflow_add-result
overflow_add-result c =
    let s = c.requires.sought in
    let low = share_low s.fares c.args.sought.now.rungs.now _ c.in-Some.share s.rungs (sym c.in-Some.ensures) in
    let least = s.ruled.low in
    omega (arith, low, least)

pub returns-in_default-clause-none : goal.returns-in_default-clause-none
returns-in_default-clause-none c = λ t e.
    let j = c.args.joint.now in
    let room = c.args.room.now in
    let fits = c.requires.room.fits in
    let there = got_read room.fitting.tails.items c.args.at (record { classes = 0; listed = None }) (let m = fits.many in omega (arith, m, c.requires.tail)) in
    let fit = fits.each c.args.at t _ e there in
    tail_closed j room c.args.sought.now c.requires.sought t c.classes.result (subst (HasOpen j.bucket.now t) (sym (c.classes.ensures _ there)) fit.classes) (sym c.in_default.ensures)

pub returns-clause-some : goal.returns-clause-some
returns-clause-some c = λ t e.
    let j = c.args.joint.now in
    let room = c.args.room.now in
    let fits = c.requires.room.fits in
    let there = got_read room.fitting.tails.items c.args.at (record { classes = 0; listed = None }) (let m = fits.many in omega (arith, m, c.requires.tail)) in
    let fit = fits.each c.args.at t _ e there in
    tail_is_low j room c.args.sought.now c.requires.sought t c.classes.result (subst (HasOpen j.bucket.now t) (sym (c.classes.ensures _ there)) fit.classes) c.in-Some.share (sym c.in-Some.ensures)

pub returns-clause-low : goal.returns-clause-low
returns-clause-low c =
    let s = c.requires.sought in
    let low = share_low s.fares c.args.sought.now.rungs.now _ c.in-Some.share s.rungs (sym c.in-Some.ensures) in
    let least = s.ruled.low in
    omega (arith, low, least)
