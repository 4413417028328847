use Rattle.serve_desks.specs.Served.{IsServed}
use Rattle.serve_desks.proofs.serving.serve.Given as goal

abbrev pub invariant-loop-desk : goal.invariant-loop-desk
invariant-loop-desk g l = IsServed g.T.Teller.house g.T.Teller.terms g.T.Teller.seen g.T.Teller.wants g.T.Teller.right g.H.House.name g.H.House.terms l.served
