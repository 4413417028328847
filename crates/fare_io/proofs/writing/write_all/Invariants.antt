use Rattle.std.proofs.Common.{◌≡◌, ◌≤◌, ◌-◌, length, take}
use Rattle.std.specs.Io.KnownBytes.{Appends}
use Rattle.fare_io.proofs.writing.write_all.Given as goal

abbrev pub invariant-loop-at : goal.invariant-loop-at
invariant-loop-at g l =
    record {
      within : l.at ≤ length l.text;
      appended : Appends (g.K.Sink.held l.initial.sink) (g.K.Sink.held l.sink) (take l.at l.text);
      later : g.K.Sink.faults l.initial.sink ≤ g.K.Sink.faults l.sink;
      stalls_same : g.K.Sink.stalls l.sink ≡ g.K.Sink.stalls l.initial.sink;
    }

abbrev pub decreases-loop-at : goal.decreases-loop-at
decreases-loop-at g l = length l.text - l.at
