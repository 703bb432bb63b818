use Rattle.std.proofs.Common.{◌≡◌}
use Rattle.serde_json.specs.View.{members_view}
use Rattle.channel_json.specs.Requests.{outputs_fault}
use Rattle.channel_json.proofs.requests.outputs_fault.Given as goal

abbrev pub invariant-loop-id : goal.invariant-loop-id
invariant-loop-id l =
    (goal.iterator-loop-id).can_next l.id-iterator
    × (goal.iterator-loop-id).is_finite l.id-iterator
    × (outputs_fault l.device (members_view l.outputs.entries)
    ≡ outputs_fault l.device (members_view l.id-iterator))
