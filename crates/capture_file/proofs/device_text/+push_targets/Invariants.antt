use Rattle.std.proofs.Common.{length}
use Rattle.capture_file.proofs.device_text.+push_targets.Given as goal

abbrev pub decreases-push_targets : goal.decreases-push_targets
decreases-push_targets l = length l.outputs.now
