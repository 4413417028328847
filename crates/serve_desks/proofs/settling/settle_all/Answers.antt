use Rattle.std.proofs.Common.{◌∙◌, subst, arith}
use Rattle.serve_desks.specs.Served.{AllServed}
use Rattle.serve_desks.proofs.ServedLists.{served_before}
use Rattle.serve_desks.proofs.settling.settle_all.Goals as goal

pub loop-one-preserved : goal.loop-one-preserved
loop-one-preserved g c =
    let t = g.T.Teller in
    let h = g.H.House in
    let so_far = c.loop-one.invariant in
    let e = c.in_ok-add_settled.ensures in
    let all = subst (AllServed t.house t.terms t.seen t.wants t.right h.name h.terms) c.in-Some.ensures.items so_far.0 in (
      served_before t.house t.terms t.seen t.wants t.right h.name h.terms c.pop.new.self.items c.in-Some.one all,
      e.tellers,
      e.given,
      e.lines ∙ so_far.3,
      omega (arith, c.in-Some.ensures.len, e.count, so_far.4),
    )
