use Rattle.std.proofs.Common.{◌≡◌, ◌+◌, ◌++◌, drop, map}
use Rattle.std.specs.List.{enumerate_from}
use Rattle.sdp_audio.specs.Made.{stream_input}
use Rattle.sdp_audio.proofs.device.inputs_of.Given as goal

abbrev pub invariant-loop-stream : goal.invariant-loop-stream
invariant-loop-stream l = record {
  count : l.number ≡ l.stream-index + 1;
  made : l.inputs ++ map stream_input (enumerate_from l.number (drop l.stream-index l.streams))
      ≡ map stream_input (enumerate_from 1 l.streams);
}
