use Rattle.sdp_audio.proofs.Numbered.{labels_more}
use Rattle.sdp_audio.proofs.device.labels_of.Goals as goal

pub loop-channel-preserved : goal.loop-channel-preserved
loop-channel-preserved c =
    let more = labels_more c.loop-channel.channel in
    cc (
      c.in_ok-push.ensures.items,
      c.in_ok-label.ensures.ok,
      c.into_bytes.ensures.value,
      c.from_vec.ensures,
      c.loop-channel.invariant,
    )
