use Rattle.serde_json.specs.View.{view}
use Rattle.channel_json.proofs.RequestLemmas.{changes_ascend}
use Rattle.channel_json.proofs.requests.output_change.Goals as goal

pub invariant_of-result : goal.invariant_of-result
invariant_of-result c =
    rw c.in_ok-changes.ensures
    (changes_ascend c.args.device.now (view c.args.cells.now) c.args.output)
