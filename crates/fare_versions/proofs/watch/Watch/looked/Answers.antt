use Rattle.std.proofs.Common.{IfOk, subst}
use Rattle.std.specs.Arc.{arc_value}
use Rattle.fare_law.specs.Lists.{IsPrefix}
use Rattle.fare_versions.specs.Seen.{Sight}
use Rattle.fare_versions.proofs.StoreSteps.{turns, grows_self}
use Rattle.fare_versions.proofs.watch.Watch.looked.Goals as goal

pub enter_as-requires : goal.enter_as-requires
enter_as-requires c x = turns _ _ x x (grows_self x)

pub returns-in-Ok-clause-learnt : goal.returns-in-Ok-clause-learnt
returns-in-Ok-clause-learnt c =
    subst (λ (v : Sight). IfOk c.book_after-book.result (λ b. IsPrefix v.told (arc_value b).entries)) c.self.view_is c.book_after-book.ensures.told
