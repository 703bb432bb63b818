use Rattle.std.proofs.Common.{◌≡◌}
use Rattle.serde_json.specs.View.{members_view}
use Rattle.channel_json.specs.Requests.{cells_fault}
use Rattle.channel_json.proofs.requests.cells_fault.Given as goal

abbrev pub invariant-loop-key : goal.invariant-loop-key
invariant-loop-key l =
    (goal.iterator-loop-key).can_next l.key-iterator
    × (goal.iterator-loop-key).is_finite l.key-iterator
    × (cells_fault l.device (members_view l.cells.entries)
    ≡ cells_fault l.device (members_view l.key-iterator))
