use Rattle.std.proofs.Common.{◌≡◌, length, map, drop}
use Rattle.exact_text.proofs.Loops.{with_front}
use Rattle.capture_file.specs.Replies.{rows_at}
use Rattle.capture_file.proofs.reading.read_rows.Given as goal

abbrev pub invariant-loop-output : goal.invariant-loop-output
invariant-loop-output l =
    with_front l.made.items
    (rows_at (map (λ o. length o.labels) (drop l.output-index l.outputs)) l.rest)
    ≡ rows_at (map (λ o. length o.labels) l.outputs) l.bytes
