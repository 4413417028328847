use Rattle.std.proofs.Common.{subst, ap, refl, List}
use mathlib.Core.List.{IsPrefix}
use Rattle.fare_law.specs.declared.filings.Filing.{Filing}
use Rattle.fare_versions.proofs.Beginnings.{either_begins}
use Rattle.fare_versions.proofs.front.Front.begins.Goals as goal

pub returns : goal.returns
returns c =
    let both = c.learn.new.self.log in
    let this : IsPrefix c.self.inside.seen.log both = subst (λ (l : List Filing). IsPrefix l both) (ap (λ s. s.log) c.again-both.ensures) c.learn.ensures.2 in
    rw (← c.self.view_is, ← c.other.view_is) (either_begins c.self.inside.seen.log c.other.inside.seen.log both c.self.inside.count c.other.inside.count _ refl c.self.invariant c.other.invariant this c.learn.ensures.3)
