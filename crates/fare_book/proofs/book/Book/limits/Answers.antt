use Rattle.std.proofs.Common.{subst}
use Rattle.fare_book.specs.Keeping.{Limited}
use Rattle.fare_book.proofs.Limits.{kept_limits}
use Rattle.fare_book.proofs.book.Book.limits.Goals as goal

pub returns : goal.returns
returns c = subst Limited c.self.view_is (kept_limits _ _ _ c.self.invariant.history c.self.invariant.counted)
