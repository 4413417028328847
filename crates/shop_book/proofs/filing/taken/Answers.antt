use Rattle.std.proofs.Common.{◌≡◌, ℕ, subst}
use Rattle.fare_law.specs.declared.filings.BookWhy.{BookWhy}
use Rattle.fare_law.specs.declared.filings.Filing.{Filing}
use Rattle.fare_law.specs.Faults.{Fault}
use Rattle.whole_case.specs.Filings.{with_filing}
use Rattle.shop_book.proofs.filing.taken.Goals as goal

pub returns-in-Ok : goal.returns-in-Ok
returns-in-Ok c =
    let b = c.args.book.now in
    subst (λ (filing : Filing). ((at : ℕ) (why : BookWhy) → Fault b filing at why → ⊥) × (c.in-Ok.next ≡ with_filing b filing)) c.in_ok-filing.ensures.ok (c.in-Ok.ensures.right, c.in-Ok.ensures.value)
