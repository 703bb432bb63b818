use Rattle.std.proofs.Common.{rules, true, false, is_some, refl, sym, ◌∙◌}
use Rattle.std.specs.List.{list_all}
use Rattle.sdp_audio.specs.Line.{words}
use Rattle.sdp_audio.specs.Media.{type_of}
use Rattle.sdp_audio.proofs.MediaWords.{words_fault}
use Rattle.sdp_audio.proofs.media.has_media_fault.Goals as goal

pub returns-then-is_rtp : goal.returns-then-is_rtp
returns-then-is_rtp c =
    let parts = c.in-Some.parts in
    words_fault c.args.value.now parts.kind.now parts.port.now parts.transport.now parts.types.now false true c.are_types.result
    c.in-Some.ensures.some (search rules) (search rules) c.are_types.ensures

pub returns-else-is_rtp : goal.returns-else-is_rtp
returns-else-is_rtp c =
    let parts = c.in-Some.parts in
    c.if-is_rtp.false
    ∙ words_fault c.args.value.now parts.kind.now parts.port.now parts.transport.now parts.types.now false false
    (list_all (λ word. is_some (type_of word)) (words parts.types.now)) c.in-Some.ensures.some (search rules)
    (sym c.if-is_rtp.false ∙ c.is_rtp.ensures) refl
