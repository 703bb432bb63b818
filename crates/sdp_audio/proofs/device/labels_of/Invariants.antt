use Rattle.std.proofs.Common.{◌≡◌}
use Rattle.sdp_audio.specs.Made.{numbered_labels}
use Rattle.sdp_audio.proofs.device.labels_of.Given as goal

abbrev pub invariant-loop-channel : goal.invariant-loop-channel
invariant-loop-channel l = l.labels.items ≡ numbered_labels l.channel
