use Rattle.std.proofs.Common.{◌∙◌, Some, subst, sym, IfSome}
use Rattle.fare_law.specs.Lists.{Each}
use Rattle.serve_desks.specs.Served.{Names}
use Rattle.serve_desks.specs.Settled.{AreGiven}
use Rattle.serve_desks.proofs.EachLemmas.{each_but_last, each_last, each_set}
use Rattle.serve_desks.proofs.settling.place_all.Goals as goal

pub loop-entry-preserved-then-line-len : goal.loop-entry-preserved-then-line-len
loop-entry-preserved-then-line-len g c =
    let right = g.T.Teller.right in
    let terms = g.H.House.terms in
    let filings = c.args.filings.now.receipt.entries in
    let all = subst (Each (Names right terms filings)) c.in-Some.ensures.items c.loop-entry.invariant.0 in (
      each_but_last (Names right terms filings) c.pop.new.self.items c.in-Some.entry all,
      subst (AreGiven right terms filings) (sym c.place.ensures.items)
          (each_set (λ o. IfSome o (Names right terms filings)) c.loop-entry.given.items c.in-Some.entry.line (Some c.in-Some.entry) c.loop-entry.invariant.1
          (each_last (Names right terms filings) c.pop.new.self.items c.in-Some.entry all)),
      c.place.ensures.lines ∙ c.loop-entry.invariant.2,
    )
