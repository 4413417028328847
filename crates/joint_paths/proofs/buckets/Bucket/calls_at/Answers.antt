use Rattle.std.proofs.Common.{◌≡◌, ◌≢◌, ◌<◌, ℕ, List, Some, length, get_or, slice_get, refl, sym, ap, subst, ◌∙◌}
use Rattle.fare_law.specs.Lists.{Each}
use Rattle.fare_law.specs.Parts.{Numbers}
use Rattle.flight_paths.specs.declared.positions.Path.{Path}
use Rattle.flight_paths.specs.Ways.{arrivals_of}
use Rattle.flight_paths.proofs.Places.{arrivals_all, no_flight, numbers_known}
use Rattle.joint_paths.proofs.CallFacts.{arrivals_more, arrives_at, called_not_apart}
use Rattle.law_lemmas.proofs.Lists.{got_is}
use Rattle.law_lemmas.proofs.Tests.{not_so, true_false}
use Rattle.joint_paths.proofs.buckets.Bucket.calls_at.Goals as goal

-- the numbers are those of the tail
own_numbers : (paths : List Path) (n : ℕ) (d path : Path) (ns : List ℕ) → ns ≡ (get_or paths n d).flights → slice_get paths n ≡ Some path → path.flights ≡ ns
own_numbers paths n d path ns e got = sym (e ∙ ap (λ (p : Path). p.flights) (got_is paths n d path got))

pub bounds-all-number : goal.bounds-all-number
bounds-all-number c =
    let b = c.args.self.now.case.now.book.now in
    let ns = c.as_slice-numbers.result.now in
    let tail = c.requires in
    let own = subst (λ xs. Numbers b xs tail.short.flights) (own_numbers c.args.self.now.paths.now c.args.tail.now.number _ tail.path ns c.as_slice-numbers.ensures.items tail.stands) tail.short.numbers in
    subst (λ xs. get_or ns c.loop-number.number-index 0 < length xs) (sym c.flights-all.ensures.flights) (numbers_known b.timetable.flights ns tail.short.flights c.loop-number.number-index 0 own c.loop-number-test.true)

pub loop-number-preserved : goal.loop-number-preserved
loop-number-preserved c = λ fs h.
    let b = c.args.self.now.case.now.book.now in
    let ns = c.as_slice-numbers.result.now in
    let i = c.loop-number.number-index in
    let there = ap (λ xs. (get_or xs (get_or ns i 0) no_flight).to) c.flights-all.ensures.flights in
    arrivals_more b ns fs h i c.loop-number-test.true (λ p. c.args.place ≢ p) (c.loop-number.invariant fs h) (λ e. not_so c.is.result c.if-is.false c.is.ensures.1 (there ∙ sym e))

pub returns-then-is : goal.returns-then-is
returns-then-is c = λ path got fs m.
    let b = c.args.self.now.case.now.book.now in
    let ns = c.as_slice-numbers.result.now in
    let i = c.loop-number.number-index in
    let there = ap (λ xs. (get_or xs (get_or ns i 0) no_flight).to) c.flights-all.ensures.flights in
    let own = subst (λ xs. Numbers b xs fs) (own_numbers c.args.self.now.paths.now c.args.tail.now.number _ path ns c.as_slice-numbers.ensures.items got) m in
    (λ e. absurd (true_false refl e), λ each. absurd (called_not_apart c.args.place _ (arrivals_of fs) (arrives_at b ns fs own i c.loop-number-test.true) (sym (c.is.ensures.0 c.if-is.true) ∙ there) each))

pub returns : goal.returns
returns c = λ path got fs m.
    let b = c.args.self.now.case.now.book.now in
    let ns = c.as_slice-numbers.result.now in
    let own = subst (λ xs. Numbers b xs fs) (own_numbers c.args.self.now.paths.now c.args.tail.now.number _ path ns c.as_slice-numbers.ensures.items got) m in
    (λ e. subst (Each (λ p. c.args.place ≢ p)) (arrivals_all b.timetable.flights ns fs c.loop-number.number-index own c.loop-number-test.false) (c.loop-number.invariant fs own), λ each. refl)
