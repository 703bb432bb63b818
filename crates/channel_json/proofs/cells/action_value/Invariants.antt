use Rattle.std.proofs.Common.{◌≡◌, drop, map}
use Rattle.serde_json.specs.Data.{no_members}
use Rattle.serde_json.specs.View.{members_view}
use Rattle.channel_json.specs.Cells.{output_member}
use Rattle.channel_json.specs.Values.{with_members}
use Rattle.channel_json.proofs.cells.action_value.Given as goal

abbrev pub invariant-loop-change : goal.invariant-loop-change
invariant-loop-change l =
    with_members (map (output_member l.device) (drop l.change-index l.action))
    (members_view l.map.entries)
    ≡ with_members (map (output_member l.device) l.action) no_members
