use Rattle.std.proofs.Common.{◌≡◌, get_or, sym, ap, ◌∙◌, inl, inr, arith}
use Rattle.std.proofs.lemmas.Bool.{cases_lt}
use Rattle.flight_paths.proofs.Places.{no_flight}
use Rattle.law_lemmas.proofs.Lists.{get_is}
use Rattle.law_lemmas.proofs.Members.{in_list}
use Rattle.law_lemmas.proofs.Tests.{not_so}
use Rattle.flight_paths.proofs.ways.next_onward.Goals as goal

pub bounds-flights-numbers : goal.bounds-flights-numbers
bounds-flights-numbers c = c.requires.known (get_or c.args.numbers.now c.loop-i.i 0) (in_list c.args.numbers.now c.loop-i.i 0 c.loop-i-test.true)

pub loop-i-preserved : goal.loop-i-preserved
loop-i-preserved c = λ k from lt n e f h to.
    let ns = c.args.numbers.now in
    let fs = c.args.flights.now in
    let i = c.loop-i.i in
    elim (cases_lt k i) [
      | inl less ↦ c.loop-i.invariant k from less n e f h to
      | inr ge ↦ let same : k ≡ i = omega (arith, lt, ge) in
          let number : get_or ns i 0 ≡ n = ap (λ x. get_or ns x 0) (sym same) ∙ get_is ns k n 0 e in
          let flight : get_or fs (get_or ns i 0) no_flight ≡ f = ap (λ x. get_or fs x no_flight) number ∙ get_is fs n f no_flight h in
          not_so c.is.result c.if-is.false c.is.ensures.1 (ap (λ x. x.to) flight ∙ to)
    ]
