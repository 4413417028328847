use Rattle.std.proofs.Common.{◌≡◌, Some, refl, subst, inr}
use Rattle.cheap_moves.proofs.FirstOnes.{last_read}
use Rattle.fare_law.specs.Lists.{OnLast}
use Rattle.cheap_moves.proofs.bucket.cut.Goals as goal

pub returns-in-len1-up-clause-limit : goal.returns-in-len1-up-clause-limit
returns-in-len1-up-clause-limit c =
    let last = c.last-item.result in
    inr (subst (OnLast (λ m. Some last.total ≡ Some m.total)) c.as_slice.ensures.value (last_read (λ m. Some last.total ≡ Some m.total) _ last c.as_slice.result.now c.in-len1-up.len_at_least c.last-item.is refl))
