use Rattle.std.proofs.Common.{subst}
use Rattle.fare_law.specs.declared.filings.Filing.{Filing}
use Rattle.fare_versions.specs.Filings.{IsFaultless}
use Rattle.run_core.proofs.making.next_version.Goals as goal

pub returns-clause-right : goal.returns-clause-right
returns-clause-right c = subst (λ (f : Filing). IsFaultless c.args.book.now f) c.in_ok-filing.ensures (record { none = c.in_ok-next.ensures.right })
