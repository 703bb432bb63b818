use Rattle.std.proofs.Common.{length}
use Rattle.sdp_audio.proofs.Faults.{Checked}
use Rattle.sdp_audio.proofs.reading.check.Given as goal

abbrev pub invariant-loop-rest : goal.invariant-loop-rest
invariant-loop-rest l = Checked l.text l.rest l.number l.blank l.in_audio

abbrev pub decreases-loop-rest : goal.decreases-loop-rest
decreases-loop-rest l = length l.rest
