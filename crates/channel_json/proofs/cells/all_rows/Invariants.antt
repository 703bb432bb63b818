use Rattle.std.proofs.Common.{◌≡◌, map}
use Rattle.std.specs.List.{range_with_len}
use Rattle.serde_json.specs.Data.{no_members}
use Rattle.serde_json.specs.View.{members_view}
use Rattle.channel_json.specs.Cells.{row_member}
use Rattle.channel_json.specs.Values.{with_members}
use Rattle.channel_json.proofs.cells.all_rows.Given as goal

abbrev pub invariant-loop-output : goal.invariant-loop-output
invariant-loop-output l =
    members_view l.map.entries
    ≡ with_members (map (row_member l.device l.rows) (range_with_len 0 l.output)) no_members
