use Rattle.std.proofs.Common.{◌≡◌, vec_len}
use Rattle.serve_desks.specs.Served.{AllName}
use Rattle.serve_desks.specs.Settled.{AreGiven}
use Rattle.serve_desks.proofs.settling.place_all.Given as goal

abbrev pub invariant-loop-entry : goal.invariant-loop-entry
invariant-loop-entry g l =
    let filings = l.filings.receipt.entries in
    AllName g.T.Teller.right g.H.House.terms filings l.replies.items × AreGiven g.T.Teller.right g.H.House.terms filings l.given.items × (vec_len l.given ≡ vec_len l.initial.given)

abbrev pub decreases-loop-entry : goal.decreases-loop-entry
decreases-loop-entry g l = vec_len l.replies
