use Rattle.std.proofs.Common.{◌≡◌, length}
use Rattle.sdp_audio.specs.Line.{words}
use Rattle.sdp_audio.specs.Section.{first_given}
use Rattle.sdp_audio.specs.Steps.{word_stream}
use Rattle.sdp_audio.proofs.section.first_stream.Given as goal

abbrev pub invariant-loop-word : goal.invariant-loop-word
invariant-loop-word l =
    first_given (word_stream l.port l.table) (words l.types) ≡ first_given (word_stream l.port l.table) (words l.rest)

abbrev pub decreases-loop-word : goal.decreases-loop-word
decreases-loop-word l = length l.rest
