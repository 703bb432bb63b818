use Rattle.chanmap.proofs.Straight.{row_more}
use Rattle.chanmap.proofs.commands.from_sdp.straight_row.Goals as goal

pub loop-channel-preserved : goal.loop-channel-preserved
loop-channel-preserved c =
    let more = row_more c.args.input c.loop-channel.channel in
    cc (c.in_ok-push.ensures.ok, c.loop-channel.invariant)
