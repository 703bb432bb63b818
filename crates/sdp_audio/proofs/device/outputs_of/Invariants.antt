use Rattle.std.proofs.Common.{◌≡◌, ◌+◌, ◌++◌, drop, map}
use Rattle.std.specs.List.{enumerate_from}
use Rattle.sdp_audio.specs.Made.{stream_output}
use Rattle.sdp_audio.proofs.device.outputs_of.Given as goal

abbrev pub invariant-loop-stream : goal.invariant-loop-stream
invariant-loop-stream l = record {
  count : l.number ≡ l.stream-index + 1;
  made : l.outputs ++ map stream_output (enumerate_from l.number (drop l.stream-index l.streams))
      ≡ map stream_output (enumerate_from 1 l.streams);
}
