use Rattle.std.proofs.Common.{◌≡◌, drop, length, map, vec_len}
use Rattle.std.specs.Arc.{arc_value}
use Rattle.serving.specs.Replaying.{history_after}
use Rattle.serving.proofs.Replays.{Reached}
use Rattle.serving.proofs.versions.replay.Given as goal

abbrev pub invariant-loop-at : goal.invariant-loop-at
invariant-loop-at l =
    let start = arc_value l.opening in
    (vec_len l.texts ≡ length l.replies)
    × Reached start.timetable (history_after start.entries (map arc_value l.later) l.filed) (length start.entries) l.replies l.texts.items (arc_value l.book) (map arc_value (drop l.at l.later)) (drop l.at l.filed)
