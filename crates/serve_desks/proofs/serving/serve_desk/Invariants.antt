use Rattle.serve_desks.specs.Served.{IsServed}
use Rattle.serve_desks.proofs.serving.serve_desk.Given as goal

abbrev pub invariant-loop-at : goal.invariant-loop-at
invariant-loop-at g l = IsServed g.T.Teller.house g.T.Teller.terms g.T.Teller.seen g.T.Teller.wants g.T.Teller.right g.H.House.name g.H.House.terms l.served
