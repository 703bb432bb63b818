use Rattle.std.proofs.Common.{◌≡◌, drop}
use Rattle.serde_json.specs.Data.{no_members}
use Rattle.serde_json.specs.View.{members_view}
use Rattle.channel_json.specs.Cells.{numbered}
use Rattle.channel_json.specs.Values.{with_members}
use Rattle.channel_json.proofs.cells.row_value.Given as goal

abbrev pub invariant-loop-channel : goal.invariant-loop-channel
invariant-loop-channel l =
    with_members (numbered l.device l.channel (drop l.channel l.cells)) (members_view l.map.entries)
    ≡ with_members (numbered l.device 0 l.cells) no_members
