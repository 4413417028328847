use Rattle.std.proofs.Common.{◌≡◌, List, [], ◌∷◌, ◌++◌, ap, sym, subst}
use Rattle.std.specs.List.{fold}
use Rattle.fare_versions.specs.Published.{Published, Grows}
use Rattle.fare_versions.specs.Writing.{pending, shown}
use Rattle.fare_versions.proofs.StoreSteps.{turns}
use Rattle.fare_versions.proofs.store.publish.Goals as goal

pub publish_as-writer-requires : goal.publish_as-writer-requires
publish_as-writer-requires g c next is =
    let now : Published = shown c.append.new.self in
    let one : pending c.append.new.self ≡ c.args.edition ∷ [] =
    subst (λ (ops : List Published). pending c.append.new.self ≡ ops ++ c.args.edition ∷ []) c.requires.empty c.in-Ok.ensures.pending in
    let same : next ≡ c.args.edition = subst (λ (ops : List Published). next ≡ fold (λ (s : Published) (t : Published). t) now ops) one is in
    let up : Grows now c.args.edition = subst (λ (s : Published). Grows s c.args.edition) (ap (λ d. d.shown.value) (sym c.append.ensures.desk)) c.requires.later in
    turns _ _ now next (subst (λ (t : Published). Grows now t) (sym same) up)
