use Rattle.std.proofs.Common.{◌≤◌, subst, sym, arith}
use Rattle.cheap_moves.specs.Prospects.{AreOnce}
use Rattle.cheap_moves.proofs.Suiting.{group_put}
use Rattle.fare_law.specs.Lists.{IsIn}
use Rattle.law_lemmas.proofs.Tests.{not_so}
use Rattle.cheap_moves.proofs.prospects.Prospects.put.Goals as goal
use Rattle.cheap_moves.proofs.prospects.Prospects.put.Goals.{else-code-self-via-then-code-self+else-is_among, else-code-self-via-else-code-self}

pub returns : goal.returns
returns c =
    let old = c.args.self.now in
    let group = c.args.group in
    let out : AreOnce old → IsIn group old.groups → ⊥ = λ h i. elim c.else-code-self.branch [
      | else-code-self-via-then-code-self+else-is_among w ↦ not_so w.is_among.result w.if-is_among.false w.is_among.ensures.1 (subst (IsIn group) (sym w.as_slice.ensures) i)
      | else-code-self-via-else-code-self w ↦ let l = h.below group i in let e = c.code-code.ensures in let f = w.if-code-self.false in omega (arith, l, e, f)
    ] in
    group_put group old (record { groups = c.push.new.self; greatest = c.greater-self.result }) out c.in_ok-push.ensures.items c.greater-self.ensures.one (subst (λ n. n ≤ c.greater-self.result) c.code-code.ensures c.greater-self.ensures.other)
