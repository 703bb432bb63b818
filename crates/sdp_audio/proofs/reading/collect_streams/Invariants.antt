use Rattle.std.proofs.Common.{◌≡◌, ◌++◌, length, filter_map}
use Rattle.std.specs.Str.Lines.{lines}
use Rattle.sdp_audio.specs.Section.{sections, stream_of, sdp_streams}
use Rattle.sdp_audio.proofs.reading.collect_streams.Given as goal

abbrev pub invariant-loop-rest : goal.invariant-loop-rest
invariant-loop-rest l = l.streams ++ filter_map stream_of (sections (lines l.rest)) ≡ sdp_streams l.text

abbrev pub decreases-loop-rest : goal.decreases-loop-rest
decreases-loop-rest l = length l.rest
