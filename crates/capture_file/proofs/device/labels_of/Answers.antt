use Rattle.capture_file.proofs.Numbered.{numbered_more}
use Rattle.capture_file.proofs.device.labels_of.Goals as goal

pub loop-channel-preserved : goal.loop-channel-preserved
loop-channel-preserved c =
    let more = numbered_more c.loop-channel.channel in
    cc (
      c.in_ok-push.ensures.items,
      c.in_ok-label.ensures.ok,
      c.into_bytes.ensures.value,
      c.from_vec.ensures,
      c.loop-channel.invariant,
    )
