use Rattle.std.proofs.Common.{◌+◌, get_or, take, bit_or, refl, subst, sym}
use Rattle.fare_groups.specs.declared.rungs.Rung.{Rung}
use Rattle.fare_groups.proofs.RungFacts.{TakesFirsts, next_added, next_passed}
use Rattle.law_lemmas.proofs.Members.{in_list}
use Rattle.fare_groups.proofs.rungs.firsts_of.Goals as goal
use Rattle.fare_groups.proofs.rungs.firsts_of.Goals.{then-seen-rung-eq0+in_ok-push, else-seen-rung-eq0}

none : Rung
none = record { share = 0; class = 0 }

pub loop-rung-preserved : goal.loop-rung-preserved
unfolding none
loop-rung-preserved c =
    let all = c.args.all.now in
    let i = c.loop-rung.rung-index in
    let lt = c.loop-rung-test.true in
    let r = get_or all i none in
    let within = in_list all i none lt in
    elim c.if-seen-rung-eq0.branch [
      | then-seen-rung-eq0+in_ok-push w ↦
          subst (λ s. TakesFirsts all (take (i + 1) all) s c.if-seen-rung-eq0.firsts) (sym w.seen-is)
          (subst (TakesFirsts all (take (i + 1) all) (bit_or c.loop-rung.seen r.class)) (sym w.firsts-is)
          (next_added all c.requires i none r lt refl within c.loop-rung.seen c.loop-rung.firsts c.loop-rung.invariant w.push.new.self w.in_ok-push.ensures.items))
      | else-seen-rung-eq0 w ↦
          subst (λ s. TakesFirsts all (take (i + 1) all) s c.if-seen-rung-eq0.firsts) (sym w.seen-is)
          (subst (TakesFirsts all (take (i + 1) all) c.loop-rung.seen) (sym w.firsts-is)
          (next_passed all c.requires i none r lt refl within c.loop-rung.seen c.loop-rung.firsts c.loop-rung.invariant w.if-seen-rung-eq0.false))
    ]
