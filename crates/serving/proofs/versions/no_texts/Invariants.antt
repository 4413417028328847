use Rattle.std.proofs.Common.{◌≡◌, vec_len}
use Rattle.serving.proofs.versions.no_texts.Given as goal

abbrev pub invariant-loop : goal.invariant-loop
invariant-loop l = vec_len l.texts ≡ l.counter
