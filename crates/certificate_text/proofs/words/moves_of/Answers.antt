use Rattle.std.proofs.Common.{arith, ap, eq-eqb, length, sym, ◌∙◌}
use Rattle.std.proofs.lemmas.Bool.{true≢false}
use Rattle.certificate_text.proofs.WordLemmas.{moves_kept}
use Rattle.certificate_text.proofs.words.moves_of.Goals as goal

pub loop-rest-preserved : goal.loop-rest-preserved
loop-rest-preserved c =
    let h = moves_kept c.loop-rest.moves c.push.new.self c.in_ok-mv.mv c.loop-rest.rest.now c.in_ok-mv.more.now c.args.text.now
    c.push.ensures (omega (arith, ap length c.as_slice.ensures.items)) (λ e. true≢false (sym (c.is_empty.ensures ∙ eq-eqb (length c.loop-rest.rest.now) 0 e) ∙ c.if-is_empty.false)) c.in_ok-mv.ensures c.loop-rest.invariant.left in
    record { few = h.0; left = h.1 }
