use Rattle.std.proofs.Common.{◌≡◌, vec_len}
use Rattle.serving.proofs.Replays.{ToldSome}
use Rattle.serving.proofs.versions.tell.Given as goal

abbrev pub invariant-loop-at : goal.invariant-loop-at
invariant-loop-at l = (vec_len l.texts ≡ vec_len l.initial.texts) × ToldSome l.book l.replies l.initial.texts.items l.texts.items l.at
