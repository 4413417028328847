use Rattle.std.proofs.Common.{◌-◌, ◌∷◌, [], inl, length, refl, subst, sym}
use Rattle.fare_law.specs.Lists.{IsIn}
use Rattle.law_lemmas.proofs.Members.{got_in, in_left, in_right}
use Rattle.asked_keys.proofs.asking.add_asked.Goals as goal

pub returns-then-has_keys_of-clause-asked : goal.returns-then-has_keys_of-clause-asked
returns-then-has_keys_of-clause-asked c =
    let items = c.as_slice.result.now in
    let last = c.in-Some.last.now in
    (last, subst (IsIn last) c.as_slice.ensures (got_in items (length items - 1) last (sym c.in-Some.ensures.value)), c.has_keys_of.ensures c.if-has_keys_of.true)

pub returns-clause-asked : goal.returns-clause-asked
returns-clause-asked c = (c.args.residual, subst (IsIn c.args.residual) (sym c.in_ok-push.ensures.items) (in_right c.args.residual c.args.asked.now (c.args.residual ∷ []) (inl refl)), λ b q key k. k)

pub returns-clause-stays : goal.returns-clause-stays
returns-clause-stays c = λ x i. subst (IsIn x) (sym c.in_ok-push.ensures.items) (in_left x c.args.asked.now (c.args.residual ∷ []) i)
