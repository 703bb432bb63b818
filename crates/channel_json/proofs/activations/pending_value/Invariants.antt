use Rattle.std.proofs.Common.{◌≡◌, drop, map}
use Rattle.serde_json.specs.Data.{no_members}
use Rattle.serde_json.specs.View.{members_view}
use Rattle.channel_json.specs.Activations.{pending_member}
use Rattle.channel_json.specs.Values.{with_members}
use Rattle.channel_json.proofs.activations.pending_value.Given as goal

abbrev pub invariant-loop-item : goal.invariant-loop-item
invariant-loop-item l =
    with_members (map (pending_member l.device) (drop l.item-index l.items))
    (members_view l.map.entries)
    ≡ with_members (map (pending_member l.device) l.items) no_members
