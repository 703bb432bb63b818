use Rattle.std.proofs.Common.{◌≡◌, ◌++◌, drop, map}
use Rattle.serde_json.specs.View.{view}
use Rattle.channel_json.specs.Resources.{name_data}
use Rattle.channel_json.proofs.resources.input_names.Given as goal

abbrev pub invariant-loop-input : goal.invariant-loop-input
invariant-loop-input l =
    map view l.list.items ++ map (λ i. name_data i.id) (drop l.input-index l.device.inputs)
    ≡ map (λ i. name_data i.id) l.device.inputs
