use Rattle.std.proofs.Common.{◌≡◌, drop, map}
use Rattle.serde_json.specs.Data.{no_members}
use Rattle.serde_json.specs.View.{members_view}
use Rattle.channel_json.specs.Resources.{output_data}
use Rattle.channel_json.specs.Values.{with_members}
use Rattle.channel_json.proofs.resources.outputs_value.Given as goal

abbrev pub invariant-loop-output : goal.invariant-loop-output
invariant-loop-output l =
    with_members (map (λ o. (o.id, output_data l.device o)) (drop l.output-index l.device.outputs))
    (members_view l.map.entries)
    ≡ with_members (map (λ o. (o.id, output_data l.device o)) l.device.outputs) no_members
