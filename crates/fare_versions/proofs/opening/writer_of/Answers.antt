use Rattle.std.proofs.Common.{sym, ◌∙◌}
use Rattle.fare_versions.proofs.StoreSteps.{grows_same}
use Rattle.fare_versions.proofs.opening.writer_of.Goals as goal

pub publish-writer-requires-clause-later : goal.publish-writer-requires-clause-later
publish-writer-requires-clause-later g c = grows_same _ _ (c.in_ok-writer.ensures.0 ∙ sym c.in_ok-third.ensures)
