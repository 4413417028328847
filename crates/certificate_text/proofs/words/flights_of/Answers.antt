use Rattle.std.proofs.Common.{arith, ap, length, sym}
use Rattle.certificate_text.proofs.WordLemmas.{flights_kept}
use Rattle.certificate_text.proofs.words.flights_of.Goals as goal

pub loop-rest-preserved : goal.loop-rest-preserved
loop-rest-preserved c =
    let h = flights_kept c.loop-rest.flights c.push.new.self c.in_ok-number_of.field-0 c.loop-rest.rest.now c.in_ok-word.word.now c.in_ok-word.more.now c.args.text.now c.args.count
    c.push.ensures (omega (arith, ap length c.as_slice.ensures.items)) c.in_ok-word.ensures (sym c.in_ok-number_of.ensures.value) c.loop-rest.invariant.left in
    record { few = h.0; left = h.1 }
