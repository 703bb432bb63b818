use Rattle.std.proofs.Common.{◌≡◌, ◌-◌}
use Rattle.exact_text.specs.Readings.{many_at}
use Rattle.exact_text.proofs.Loops.{with_front}
use Rattle.capture_file.specs.Replies.{pending}
use Rattle.capture_file.proofs.reading.read_pending_items.Given as goal

abbrev pub invariant-loop : goal.invariant-loop
invariant-loop l =
    with_front l.items.items (many_at (pending l.format).read (l.count - l.counter) l.rest)
    ≡ many_at (pending l.format).read l.count l.bytes
