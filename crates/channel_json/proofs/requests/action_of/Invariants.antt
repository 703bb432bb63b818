use Rattle.std.proofs.Common.{◌≡◌}
use Rattle.serde_json.specs.View.{view}
use Rattle.channel_json.specs.Fields.{found_below}
use Rattle.channel_json.specs.Requests.{output_at}
use Rattle.channel_json.proofs.requests.action_of.Given as goal

abbrev pub invariant-loop-output : goal.invariant-loop-output
invariant-loop-output l = l.action ≡ found_below (output_at l.device (view l.outputs)) l.output
