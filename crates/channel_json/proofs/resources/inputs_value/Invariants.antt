use Rattle.std.proofs.Common.{◌≡◌, drop, map}
use Rattle.serde_json.specs.Data.{no_members}
use Rattle.serde_json.specs.View.{members_view}
use Rattle.channel_json.specs.Resources.{input_data}
use Rattle.channel_json.specs.Values.{with_members}
use Rattle.channel_json.proofs.resources.inputs_value.Given as goal

abbrev pub invariant-loop-input : goal.invariant-loop-input
invariant-loop-input l =
    with_members (map (λ i. (i.id, input_data i)) (drop l.input-index l.device.inputs))
    (members_view l.map.entries)
    ≡ with_members (map (λ i. (i.id, input_data i)) l.device.inputs) no_members
