use Rattle.std.proofs.Common.{◌≡◌}
use Rattle.capture_file.specs.Device.{numbered}
use Rattle.capture_file.proofs.device.labels_of.Given as goal

abbrev pub invariant-loop-channel : goal.invariant-loop-channel
invariant-loop-channel l = l.labels.items ≡ numbered l.channel
