use Rattle.std.proofs.Common.{◌≡◌, ◌++◌, drop, map}
use Rattle.serde_json.specs.View.{view}
use Rattle.channel_json.specs.Resources.{name_data}
use Rattle.channel_json.proofs.resources.names_value.Given as goal

abbrev pub invariant-loop-name : goal.invariant-loop-name
invariant-loop-name l =
    map view l.list.items ++ map (λ name. name_data name.now) (drop l.name-index l.names)
    ≡ map (λ name. name_data name.now) l.names
