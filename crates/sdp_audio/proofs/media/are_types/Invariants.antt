use Rattle.std.proofs.Common.{◌≡◌, length, is_some}
use Rattle.std.specs.List.{list_all}
use Rattle.sdp_audio.specs.Line.{words}
use Rattle.sdp_audio.specs.Media.{type_of}
use Rattle.sdp_audio.proofs.media.are_types.Given as goal

abbrev pub invariant-loop-word : goal.invariant-loop-word
invariant-loop-word l =
    list_all (λ word. is_some (type_of word)) (words l.types) ≡ list_all (λ word. is_some (type_of word)) (words l.rest)

abbrev pub decreases-loop-word : goal.decreases-loop-word
decreases-loop-word l = length l.rest
