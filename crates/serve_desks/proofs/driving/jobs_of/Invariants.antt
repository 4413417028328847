use Rattle.std.proofs.Common.{◌≡◌, ◌+◌, vec_len}
use Rattle.fare_law.specs.Lists.{Each}
use Rattle.serve_desks.specs.Terms.{IsOf}
use Rattle.serve_desks.proofs.driving.jobs_of.Given as goal

abbrev pub invariant-loop-teller : goal.invariant-loop-teller
invariant-loop-teller g l = Each (IsOf g.T.Teller.house g.T.Teller.terms g.T.Teller.wants g.H.House.name g.H.House.terms) l.left.items × (vec_len l.left + vec_len l.jobs ≡ l.count)

abbrev pub decreases-loop-teller : goal.decreases-loop-teller
decreases-loop-teller g l = vec_len l.left
