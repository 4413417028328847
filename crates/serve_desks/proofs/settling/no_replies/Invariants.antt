use Rattle.std.proofs.Common.{◌≡◌, vec_len}
use Rattle.serve_desks.specs.Settled.{AreGiven}
use Rattle.serve_desks.proofs.settling.no_replies.Given as goal

abbrev pub invariant-loop : goal.invariant-loop
invariant-loop g l = AreGiven g.T.Teller.right g.H.House.terms l.filings.receipt.entries l.given.items × (vec_len l.given ≡ l.counter)
