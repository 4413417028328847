-- What the source over a reader and the sink over a writer show.
use Rattle.std.specs.Prelude.{ℕ}
use Rattle.fare_io.specs.declared.standard.StdSource.{StdSource}
use Rattle.fare_io.specs.declared.standard.StdSink.{StdSink}

-- the reader of a source
abbrev pub reader_of : {R : Type 0} → StdSource R → R
reader_of s = s.reader

-- how many reads failed
abbrev pub read_faults : {R : Type 0} → StdSource R → ℕ
read_faults s = s.faults

-- the writer of a sink
abbrev pub writer_of : {W : Type 0} → StdSink W → W
writer_of s = s.writer

-- how many writes failed
abbrev pub write_faults : {W : Type 0} → StdSink W → ℕ
write_faults s = s.faults

-- how many writes took nothing of a piece that has bytes
abbrev pub write_stalls : {W : Type 0} → StdSink W → ℕ
write_stalls s = s.stalls
