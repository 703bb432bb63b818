use Rattle.std.proofs.Common.{◌≡◌, drop, map}
use Rattle.serde_json.specs.Data.{no_members}
use Rattle.serde_json.specs.View.{members_view}
use Rattle.channel_json.specs.Cells.{change_member}
use Rattle.channel_json.specs.Values.{with_members}
use Rattle.channel_json.proofs.cells.changes_value.Given as goal

abbrev pub invariant-loop-change : goal.invariant-loop-change
invariant-loop-change l =
    with_members (map (change_member l.device) (drop l.change-index l.changes))
    (members_view l.map.entries)
    ≡ with_members (map (change_member l.device) l.changes) no_members
