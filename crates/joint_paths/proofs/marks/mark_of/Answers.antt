use Rattle.std.proofs.Common.{◌≡◌, ℕ, suc, ◌+◌, ◌<◌, ◌^◌, bit_or, get_or, length, take, sym, ap, subst, ◌∙◌, arith}
use Rattle.flight_paths.specs.Marks.{HasBits, place_bit}
use Rattle.flight_paths.specs.Ways.{arrivals_of}
use Rattle.flight_paths.proofs.Marking.{one_bit_more}
use Rattle.flight_paths.proofs.Places.{arrival_next, arrivals_all, no_flight, numbers_known}
use Rattle.joint_paths.proofs.marks.mark_of.Goals as goal

one_more : (i : ℕ) → suc i ≡ i + 1
one_more i = omega arith

pub bounds-all-number : goal.bounds-all-number
bounds-all-number c =
    let ns = c.args.numbers.now in
    let i = c.loop-number.number-index in
    subst (λ xs. get_or ns i 0 < length xs) (sym c.flights-all.ensures.flights) (numbers_known c.args.case.now.book.now.timetable.flights ns c.requires.0 i 0 c.requires.1 c.loop-number-test.true)

pub loop-number-preserved : goal.loop-number-preserved
loop-number-preserved c = λ fs h.
    let fl = c.args.case.now.book.now.timetable.flights in
    let ns = c.args.numbers.now in
    let i = c.loop-number.number-index in
    let m = c.loop-number.mark in
    let n = get_or ns i 0 in
    let f = get_or fl n no_flight in
    let bit = c.bit_of-mark.ensures ∙ ap (λ xs. 2 ^ place_bit (get_or xs n no_flight).to) c.flights-all.ensures.flights in
    let more = one_bit_more m (take i (arrivals_of fs)) f.to (c.loop-number.invariant fs h) in
    subst (λ x. HasBits (bit_or m x) (take (i + 1) (arrivals_of fs))) (sym bit) (subst (λ k. HasBits (bit_or m (2 ^ place_bit f.to)) (take k (arrivals_of fs))) (one_more i) (subst (HasBits (bit_or m (2 ^ place_bit f.to))) (sym (arrival_next fl ns fs i 0 no_flight h c.loop-number-test.true)) more))

pub returns : goal.returns
returns c = λ fs h.
    subst (HasBits c.loop-number.mark) (arrivals_all c.args.case.now.book.now.timetable.flights c.args.numbers.now fs c.loop-number.number-index h c.loop-number-test.false) (c.loop-number.invariant fs h)
