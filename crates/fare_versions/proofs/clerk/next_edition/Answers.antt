use Rattle.std.proofs.Common.{subst, ◌∙◌}
use Rattle.fare_law.specs.Book.{Book}
use Rattle.fare_versions.specs.Filings.{IsFaultless}
use Rattle.fare_versions.proofs.clerk.next_edition.Goals as goal

pub returns-clause-right : goal.returns-clause-right
returns-clause-right c =
    subst (λ (b : Book). IsFaultless b c.args.filing.value) (c.deref.ensures ∙ c.book.ensures) (record { none = c.in_ok-next.ensures.right })
