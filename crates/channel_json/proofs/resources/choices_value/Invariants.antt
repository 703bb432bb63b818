use Rattle.std.proofs.Common.{◌≡◌, ◌++◌, drop, map}
use Rattle.serde_json.specs.View.{view}
use Rattle.channel_json.specs.Resources.{choice_data}
use Rattle.channel_json.proofs.resources.choices_value.Given as goal

abbrev pub invariant-loop-choice : goal.invariant-loop-choice
invariant-loop-choice l =
    map view l.list.items ++ map (choice_data l.device) (drop l.choice-index l.choices)
    ≡ map (choice_data l.device) l.choices
