-- What an adapter over a reader and one over a writer hold. (This project's own.)
use Rattle.std.specs.Prelude.{ℕ}
use Rattle.chan_io.specs.declared.standard.StdSource.{StdSource}
use Rattle.chan_io.specs.declared.standard.StdSink.{StdSink}

-- The reader under a source.
abbrev pub inner_reader : {R : Type 0} → StdSource R → R
inner_reader s = s.inner

-- How many of its reads failed.
abbrev pub reader_faults : {R : Type 0} → StdSource R → ℕ
reader_faults s = s.faults

-- The writer under a sink.
abbrev pub inner_writer : {W : Type 0} → StdSink W → W
inner_writer s = s.inner

-- How many of its writes failed.
abbrev pub writer_faults : {W : Type 0} → StdSink W → ℕ
writer_faults s = s.faults
