use Rattle.std.proofs.Common.{◌+◌, ◌^◌, bit_or, get_or, suc, take, sym, subst, ℕ, ◌≡◌, arith}
use Rattle.flight_paths.specs.Marks.{HasBits, place_bit}
use Rattle.flight_paths.specs.Ways.{arrivals_of}
use Rattle.flight_paths.proofs.Marking.{one_bit_more}
use Rattle.flight_paths.proofs.Places.{arrival_next, arrivals_all, no_flight, numbers_known}
use Rattle.law_lemmas.proofs.Lists.{got_read}
use Rattle.flight_paths.proofs.marks.mark_of_flights.Goals as goal

one_more : (i : ℕ) → suc i ≡ i + 1
one_more i = omega arith

pub loop-number-preserved : goal.loop-number-preserved
loop-number-preserved c = λ fs h.
    let fl = c.args.flights.now in
    let ns = c.args.numbers.now in
    let i = c.loop-number.number-index in
    let m = c.loop-number.mark in
    let n = get_or ns i 0 in
    let f = get_or fl n no_flight in
    let bit = c.bit_of_flight-mark.ensures f (got_read fl n no_flight (numbers_known fl ns fs i 0 h c.loop-number-test.true)) in
    let more = one_bit_more m (take i (arrivals_of fs)) f.to (c.loop-number.invariant fs h) in
    subst (λ x. HasBits (bit_or m x) (take (i + 1) (arrivals_of fs))) (sym bit) (subst (λ k. HasBits (bit_or m (2 ^ place_bit f.to)) (take k (arrivals_of fs))) (one_more i) (subst (HasBits (bit_or m (2 ^ place_bit f.to))) (sym (arrival_next fl ns fs i 0 no_flight h c.loop-number-test.true)) more))

pub returns : goal.returns
returns c = λ fs h.
    subst (HasBits c.loop-number.mark) (arrivals_all c.args.flights.now c.args.numbers.now fs c.loop-number.number-index h c.loop-number-test.false) (c.loop-number.invariant fs h)
