use Rattle.std.proofs.Common.{◌≡◌, rules, ℤ, ◌≤ℤ◌, w64, to_z, of_z, slice_get, Some, sym, ap, subst, ◌∙◌}
use mir.Val.{SFits}
use Rattle.std.proofs.lemmas.Int.{to_z-of_z}
use Rattle.flight_paths.proofs.Places.{get_none}
use Rattle.flight_paths.proofs.Told.{int_le_is}
use Rattle.law_lemmas.proofs.Lists.{got_read}
use Rattle.law_lemmas.proofs.Options.{some_none, some_same}
use Rattle.flight_paths.proofs.ranges.opens_late.Goals as goal

plain : (z : ℤ) → SFits w64 z → to_z w64 (of_z w64 z) ≡ z
plain z f = to_z-of_z w64 z f

pub returns-in-Some : goal.returns-in-Some
returns-in-Some c =
    let first = c.in-Some.first.now in
    let found = c.in-Some.ensures.lookup.3 in
    let is : slice_get c.args.flights.now c.args.at.now.lo ≡ Some first = got_read c.args.flights.now c.args.at.now.lo first found.0 ∙ ap Some (sym (found.1 first)) in
    let instant : to_z w64 (of_z w64 c.args.instant) ≡ c.args.instant = plain c.args.instant (search rules) in
    let dep : to_z w64 (of_z w64 first.dep) ≡ first.dep = plain first.dep (search rules) in
    λ t f h.
    let same = some_same first f (sym is ∙ h) in
    subst (λ g. c.args.instant ≤ℤ g.dep) same (subst (λ d. c.args.instant ≤ℤ d) dep (subst (λ i. i ≤ℤ to_z w64 (of_z w64 first.dep)) instant (int_le_is (to_z w64 (of_z w64 c.args.instant)) (to_z w64 (of_z w64 first.dep)) t)))

pub returns-in-None : goal.returns-in-None
returns-in-None c = λ t f h. absurd (some_none f (sym h ∙ get_none c.args.flights.now c.args.at.now.lo c.in-None.ensures.lookup.3))
