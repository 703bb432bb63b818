use Rattle.std.proofs.Common.{◌≡◌, map, drop}
use Rattle.std.specs.List.{list_any}
use Rattle.httparse.specs.Spans.{header_bytes}
use Rattle.http_wire.specs.Fields.{says_close}
use Rattle.http_wire.proofs.fields.asks_close.Given as goal

abbrev pub invariant-loop-span : goal.invariant-loop-span
invariant-loop-span l =
    list_any says_close (map (header_bytes l.bytes) l.spans) ≡ list_any says_close (map (header_bytes l.bytes) (drop l.span-index l.spans))
