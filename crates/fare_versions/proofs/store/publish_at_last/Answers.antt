use Rattle.std.proofs.Common.{◌≡◌, ◌∙◌, List, subst, sym}
use Rattle.std.specs.List.{fold}
use Rattle.fare_versions.specs.Published.{Published, Grows}
use Rattle.fare_versions.specs.Writing.{shown}
use Rattle.fare_versions.proofs.StoreSteps.{turns}
use Rattle.fare_versions.proofs.store.publish_at_last.Goals as goal

pub publish_as-next-requires : goal.publish_as-next-requires
publish_as-next-requires g c next is =
    let now : Published = shown c.loop.writer in
    let same : next ≡ c.args.edition = subst (λ (ops : List Published). next ≡ fold (λ (s : Published) (t : Published). t) now ops) (c.loop.invariant.0 ∙ c.append-writer.ensures.pending) is in
    let up : Grows now c.args.edition = subst (λ (s : Published). Grows s c.args.edition) (sym (c.loop.invariant.1 ∙ c.append-writer.ensures.shown)) c.requires.later in
    turns _ _ now next (subst (λ (t : Published). Grows now t) (sym same) up)
