use Rattle.std.proofs.Common.{take}
use Rattle.http_wire.specs.Line.{Extends}
use Rattle.http_wire.proofs.line.Part.with_bytes.Given as goal

abbrev pub invariant-loop-byte : goal.invariant-loop-byte
invariant-loop-byte l = Extends l.fn.self (take l.byte-index l.bytes) l.part
