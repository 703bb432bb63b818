use Rattle.std.proofs.Common.{◌≡◌, ◌++◌, drop, map}
use Rattle.serde_json.specs.View.{view}
use Rattle.channel_json.specs.Resources.{name_data}
use Rattle.channel_json.proofs.resources.output_names.Given as goal

abbrev pub invariant-loop-output : goal.invariant-loop-output
invariant-loop-output l =
    map view l.list.items ++ map (λ o. name_data o.id) (drop l.output-index l.device.outputs)
    ≡ map (λ o. name_data o.id) l.device.outputs
