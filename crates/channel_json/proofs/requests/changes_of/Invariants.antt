use Rattle.std.proofs.Common.{◌≡◌}
use Rattle.serde_json.specs.View.{view}
use Rattle.channel_json.specs.Fields.{found_below}
use Rattle.channel_json.specs.Requests.{change_at}
use Rattle.channel_json.proofs.requests.changes_of.Given as goal

abbrev pub invariant-loop-channel : goal.invariant-loop-channel
invariant-loop-channel l = l.changes ≡ found_below (change_at l.device (view l.cells)) l.channel
