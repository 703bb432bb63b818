use Rattle.std.proofs.Common.{◌≡◌, ◌++◌, drop, map}
use Rattle.serde_json.specs.View.{view}
use Rattle.channel_json.specs.Resources.{label_data}
use Rattle.channel_json.proofs.resources.channels_value.Given as goal

abbrev pub invariant-loop-label : goal.invariant-loop-label
invariant-loop-label l =
    map view l.list.items ++ map (label_data) (drop l.label-index l.labels)
    ≡ map (label_data) l.labels
