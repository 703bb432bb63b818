use Rattle.std.proofs.Common.{◌≡◌, drop}
use Rattle.http_wire.specs.Scan.{has_line_from, is_begun_behind}
use Rattle.http_wire.proofs.scan.scan_line.Given as goal

abbrev pub invariant-loop-byte : goal.invariant-loop-byte
invariant-loop-byte l =
    (has_line_from l.initial.begun l.bytes ≡ has_line_from l.begun (drop l.byte-index l.bytes))
    × (is_begun_behind l.initial.begun l.bytes ≡ is_begun_behind l.begun (drop l.byte-index l.bytes))
