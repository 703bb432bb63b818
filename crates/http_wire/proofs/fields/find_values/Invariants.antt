use Rattle.std.proofs.Common.{map, drop}
use Rattle.httparse.specs.Spans.{header_bytes}
use Rattle.http_wire.specs.Fields.{values_of}
use Rattle.http_wire.proofs.FieldLemmas.{SoFar}
use Rattle.http_wire.proofs.fields.find_values.Given as goal

abbrev pub invariant-loop-span : goal.invariant-loop-span
invariant-loop-span l =
    SoFar l.bytes (values_of l.name (map (header_bytes l.bytes) l.spans)) (values_of l.name (map (header_bytes l.bytes) (drop l.span-index l.spans))) l.values
