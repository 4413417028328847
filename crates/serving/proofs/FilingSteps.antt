-- A filing with no fault is filed: for `filed_on`.
use Rattle.std.proofs.Common.{◌≡◌, subst}
use Rattle.fare_book.specs.Taking.{HasCause}
use Rattle.fare_book.specs.declared.faults.BookFault.{BookFault}
use Rattle.fare_book.specs.declared.faults.BookFault.TheVariants.{Refused as BookRefused}
use Rattle.fare_law.specs.Book.{Book}
use Rattle.fare_law.specs.declared.filings.Filing.{Filing}
use Rattle.fare_law.specs.declared.filings.Refused.{Refused as Refusal}
use Rattle.fare_versions.specs.Filings.{IsFaultless}

-- such a filing isn't refused
pub none_refused : (b : Book) (f same : Filing) (fault : BookFault) (why : Refusal) → fault ≡ BookRefused why → same ≡ f → IsFaultless b f → HasCause b same fault → ⊥
none_refused b f same fault why is e none cause = none.none why.action why.why (subst (λ (x : Filing). HasCause b x (BookRefused why)) e (subst (HasCause b same) is cause))
