use Rattle.std.proofs.Common.{◌≡◌, ◌+◌, vec_len}
use Rattle.serve_desks.specs.Served.{AllServed}
use Rattle.serve_desks.specs.Settled.{AllAsked, AreGiven}
use Rattle.serve_desks.proofs.settling.settle_all.Given as goal

abbrev pub invariant-loop-one : goal.invariant-loop-one
invariant-loop-one g l =
    AllServed g.T.Teller.house g.T.Teller.terms g.T.Teller.seen g.T.Teller.wants g.T.Teller.right g.H.House.name g.H.House.terms l.ended.items
    × AllAsked g.T.Teller.terms g.T.Teller.wants g.H.House.terms l.settled.tellers.items
    × AreGiven g.T.Teller.right g.H.House.terms l.filings.receipt.entries l.settled.given.items
    × (vec_len l.settled.given ≡ l.lines)
    × (vec_len l.ended + vec_len l.settled.tellers ≡ vec_len l.initial.ended)

abbrev pub decreases-loop-one : goal.decreases-loop-one
decreases-loop-one g l = vec_len l.ended
