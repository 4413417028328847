use Rattle.std.proofs.Common.{length}
use Rattle.fare_book.proofs.same_fares.+are_letters.Given as goal

abbrev pub decreases-are_letters : goal.decreases-are_letters
decreases-are_letters l = length l.one.now
