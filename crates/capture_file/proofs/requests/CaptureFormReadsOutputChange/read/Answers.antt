use Rattle.std.proofs.Common.{refl}
use Rattle.map_entry.specs.Action.{output_change as made}
use Rattle.capture_file.specs.Requests.{output_change}
use Rattle.capture_file.proofs.Order.{ordered_channels, unordered_channels}
use Rattle.capture_file.proofs.requests.CaptureFormReadsOutputChange.read.Goals as goal

pub returns-in-Some : goal.returns-in-Some
unfolding output_change
returns-in-Some c =
    let within = rw c.from_vec.ensures at c.in-Some.ensures.within in
    rw (
      c.in_ok-output.ensures.gives,
      c.in_ok-count.ensures.gives,
      c.in_ok-changes.ensures,
      ordered_channels (made c.in_ok-output.output c.in_ok-changes.changes.items) within,
      c.in-Some.ensures.some,
      c.from_vec.ensures,
    ) refl

pub returns-in-None : goal.returns-in-None
unfolding output_change
returns-in-None c =
    let unordered = rw c.from_vec.ensures at c.in-None.ensures.none in
    rw (
      c.in_ok-output.ensures.gives,
      c.in_ok-count.ensures.gives,
      c.in_ok-changes.ensures,
      unordered_channels (made c.in_ok-output.output c.in_ok-changes.changes.items) unordered,
    ) refl
