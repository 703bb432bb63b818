-- What a source and a sink in memory hold. (This project's own.)
use Rattle.std.specs.Prelude.{ℕ, List, drop}
use Rattle.chan_io.specs.declared.memory.MemSource.{MemSource}
use Rattle.chan_io.specs.declared.memory.MemSink.{MemSink}

-- The bytes that a source has not handed over yet.
abbrev pub bytes_left : MemSource → List ℕ
bytes_left s = drop s.at s.bytes.items

-- The most bytes that it hands over in one read.
abbrev pub source_piece : MemSource → ℕ
source_piece s = s.piece

-- The numbers of its reads that fail, counted from 0.
abbrev pub source_fails : MemSource → List ℕ
source_fails s = s.fails.items

-- How often it was read, which is the number of the next read.
abbrev pub source_calls : MemSource → ℕ
source_calls s = s.calls

-- How many of its reads failed.
abbrev pub source_faults : MemSource → ℕ
source_faults s = s.faults

-- The bytes that a sink took.
abbrev pub bytes_taken : MemSink → List ℕ
bytes_taken s = s.taken.items

-- The numbers of its writes that fail, counted from 0.
abbrev pub sink_fails : MemSink → List ℕ
sink_fails s = s.fails.items

-- How often it was written to, which is the number of the next write.
abbrev pub sink_calls : MemSink → ℕ
sink_calls s = s.calls

-- How many of its writes failed.
abbrev pub sink_faults : MemSink → ℕ
sink_faults s = s.faults
