use Rattle.std.proofs.Common.{◌≡◌, map, drop}
use Rattle.std.specs.List.{list_any}
use Rattle.httparse.specs.Spans.{header_bytes}
use Rattle.http_wire.specs.Fields.{is_named}
use Rattle.http_wire.proofs.fields.has_field.Given as goal

abbrev pub invariant-loop-span : goal.invariant-loop-span
invariant-loop-span l =
    list_any (is_named l.name) (map (header_bytes l.bytes) l.spans) ≡ list_any (is_named l.name) (map (header_bytes l.bytes) (drop l.span-index l.spans))
