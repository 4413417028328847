use Rattle.std.proofs.Common.{◌+◌, bit_or, refl, sym, subst, ◌∙◌, arith}
use Rattle.fare_ends.proofs.OpenClasses.{among_left}
use Rattle.joint_paths.proofs.RuledFacts.{AreChargedSoFar, charged_next, charged_none, ruled_named, ruled_self, wider_own}
use Rattle.law_lemmas.proofs.Lists.{got_read}
use Rattle.law_lemmas.proofs.Members.{in_list}
use Rattle.joint_paths.proofs.ruled_heads.RuledHeads.charge_heads.Goals as goal

pub loop-head-init : goal.loop-head-init
loop-head-init c = record { of = refl; charged = charged_none c.args.bucket.now c.args.rule.now c.args.self.now.charges.items }

pub charges_of-charges-requires-clause-head : goal.charges_of-charges-requires-clause-head
charges_of-charges-requires-clause-head c = in_list c.args.bucket.now.heads.now c.loop-head.head-index _ c.loop-head-test.true

pub loop-head-preserved : goal.loop-head-preserved
loop-head-preserved c =
    let k = c.args.bucket.now in
    let i = c.loop-head.head-index in
    let classes = c.loop-head.classes in
    let own = c.permitted_classes-classes.result in
    let said = c.charges_of-charges.result in
    let says = c.charges_of-charges.ensures in
    record {
      of = c.loop-head.invariant.of;
      charged = subst (λ xs. AreChargedSoFar k c.args.rule.now c.args.self.now.charges.items xs (bit_or classes own) c.with_charges-least.result (i + 1)) (sym c.in_ok-push.ensures.items)
          (charged_next k c.args.rule.now c.args.self.now.charges.items c.loop-head.self.charges.items classes c.loop-head.least i c.loop-head.invariant.charged _ (got_read k.heads.now i _ c.loop-head-test.true) said says.says says.free
          (bit_or classes own) c.with_charges-least.result (among_left classes own) (wider_own classes own _ said c.permitted_classes-classes.ensures) c.with_charges-least.ensures);
    }

pub returns-in_err-push-clause-grows : goal.returns-in_err-push-clause-grows
returns-in_err-push-clause-grows c = (c.loop-head.invariant.charged.more, c.in_err-push.ensures.items ∙ c.loop-head.invariant.charged.joined)

pub returns-clause-grows : goal.returns-clause-grows
returns-clause-grows c = (c.loop-head.invariant.charged.more, c.loop-head.invariant.charged.joined)

pub returns-clause-ruled : goal.returns-clause-ruled
returns-clause-ruled c = ruled_self c.args.bucket.now c.args.rule.now c.args.self.now.charges.items c.loop-head.self.charges.items c.loop-head.classes c.loop-head.least c.loop-head.head-index c.loop-head-test.false c.loop-head.invariant.charged c.args.name c.len-from.result (omega (arith, c.len-from.ensures)) c.unwrap_or.result c.unwrap_or.ensures

pub returns-clause-named : goal.returns-clause-named
returns-clause-named c = λ rules number at named. ruled_named c.args.bucket.now c.args.rule.now c.args.self.now.charges.items c.loop-head.self.charges.items c.loop-head.classes c.loop-head.least c.loop-head.head-index c.loop-head-test.false c.loop-head.invariant.charged c.args.name c.len-from.result (omega (arith, c.len-from.ensures)) c.unwrap_or.result c.unwrap_or.ensures rules number at named
