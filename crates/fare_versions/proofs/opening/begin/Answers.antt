use Rattle.std.proofs.Common.{All, sym, subst, ◌∙◌}
use Rattle.fare_versions.specs.Published.{Published}
use Rattle.fare_versions.specs.Seen.{HasSeen}
use Rattle.fare_versions.proofs.opening.begin.Goals as goal

pub returns-in-Ok-clause-watches : goal.returns-in-Ok-clause-watches
returns-in-Ok-clause-watches g c =
    subst (λ (p : Published). All (HasSeen p) c.in-Ok.watches) (sym (c.new-in-Ok.ensures ∙ c.in-Ok.ensures.shown)) c.in-Ok.ensures.watches
