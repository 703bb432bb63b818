use Rattle.std.proofs.Common.{◌∙◌, sym}
use Rattle.serde_json.specs.View.{view}
use Rattle.channel_json.specs.Requests.{change_at}
use Rattle.channel_json.proofs.FoundLemmas.{found_none, found_more}
use Rattle.channel_json.proofs.requests.changes_of.Goals as goal

pub loop-channel-init : goal.loop-channel-init
loop-channel-init c = rw found_none c.new-changes.ensures

pub loop-channel-preserved : goal.loop-channel-preserved
loop-channel-preserved c =
    let found = change_at c.args.device.now (view c.args.cells.now) in
    let more = found_more found c.loop-channel.channel in
    c.in_ok-push_change.ensures
    ∙ rw (c.loop-channel.invariant, c.change_at-change.ensures) (sym more)
