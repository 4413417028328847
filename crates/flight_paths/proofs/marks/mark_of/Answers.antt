use Rattle.std.proofs.Common.{◌+◌, ◌^◌, [], bit_or, get_or, take, sym, subst}
use Rattle.fare_law.specs.declared.names.Place.{Place}
use Rattle.flight_paths.specs.Marks.{HasBits, place_bit}
use Rattle.flight_paths.proofs.Marking.{one_bit_more}
use Rattle.law_lemmas.proofs.Lists.{front_at}
use Rattle.flight_paths.proofs.marks.mark_of.Goals as goal

pub loop-place-preserved : goal.loop-place-preserved
loop-place-preserved c =
    let ps = c.args.places.now in
    let i = c.loop-place.place-index in
    let p : Place = get_or ps i (record { 0 = [] }) in
    let m = c.loop-place.mark in
    let more = one_bit_more m _ p c.loop-place.invariant in
    subst (λ bit. HasBits (bit_or m bit) (take (i + 1) ps)) (sym c.bit_of-mark.ensures) (subst (HasBits (bit_or m (2 ^ place_bit p))) (sym (front_at ps i (record { 0 = [] }) c.loop-place-test.true)) more)
