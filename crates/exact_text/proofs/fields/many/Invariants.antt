use Rattle.std.proofs.Common.{◌≡◌, ◌-◌}
use Rattle.exact_text.specs.Readings.{many_at}
use Rattle.exact_text.proofs.Loops.{with_front}
use Rattle.exact_text.proofs.fields.many.Given as goal

abbrev pub invariant-loop : goal.invariant-loop
invariant-loop g l =
    let reading = g.R.Reads.reading in
    with_front l.values.items (many_at reading (l.count - l.counter) l.rest)
    ≡ many_at reading l.count l.bytes
