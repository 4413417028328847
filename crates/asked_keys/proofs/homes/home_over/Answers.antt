use Rattle.std.proofs.Common.{◌∙◌, sym, subst, arith}
use Rattle.asked_keys.proofs.KeyHomes.{weighed_all, weighed_next}
use Rattle.fare_law.specs.Offers.{flights_of}
use Rattle.fare_law.specs.Parts.{Numbers}
use Rattle.asked_keys.proofs.homes.home_over.Goals as goal

pub loop-number-preserved : goal.loop-number-preserved
loop-number-preserved c =
    let l = c.loop-number.invariant in
    record {
      sum = λ legs h. weighed_next c.args.book.now c.flights-all.result.now c.as_slice-number-items.result.now c.loop-number.number-index c.loop-number.times c.loop-number.home c.weighed_at-home.result (c.flights-all.ensures.flights ∙ sym c.schedule_of.ensures.flights) c.loop-number-test.true c.weighed_at-home.ensures.value legs h
          (l.sum legs h);
      times = omega (arith, l.times);
      low = omega (arith, l.low, c.weighed_at-home.ensures.low);
      numbers = l.numbers;
      few = l.few;
    }

pub returns-clause-value : goal.returns-clause-value
returns-clause-value c = λ a h.
    let numbers = subst (λ ns. Numbers c.args.book.now ns (flights_of a.legs)) (sym c.loop-number.invariant.numbers) h in
    weighed_all c.args.book.now c.as_slice-number-items.result.now a.legs c.loop-number.number-index c.loop-number.times c.loop-number.home numbers (omega (arith, c.loop-number-test.false)) (c.loop-number.invariant.sum a.legs numbers)
