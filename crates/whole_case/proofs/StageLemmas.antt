-- What was returned, read as what stages come to one after another.
use Rattle.std.proofs.Common.{Result, Ok, Err, inl, inr}
use Rattle.whole_case.specs.declared.refusals.LoadFault.{LoadFault}
use Rattle.whole_case.specs.declared.refusals.LoadFault.TheVariants.{Refused, Mem}
use Rattle.whole_case.specs.Stages.{Reads, Stage, ◌>>=◌}

module _ {A B : Type 0} (first : Stage A) (then : A → Stage B) where
  -- the first stage refuses
  pub stops : (fault : LoadFault) → Reads {A = A} (Err fault) first → Reads {A = B} (Err fault) (first >>= then)
  stops (Refused refusal) p = inl p
  stops Mem p = tt

  -- the first stage gives this
  pub goes_on : (a : A) (r : Result B LoadFault) → first (Ok a) → Reads r (then a) → Reads r (first >>= then)
  goes_on a (Ok b) p q = (a, p, q)
  goes_on a (Err (Refused refusal)) p q = inr (a, p, q)
  goes_on a (Err Mem) p q = tt
