use Rattle.std.proofs.Common.{rules}
use Rattle.sdp_audio.proofs.MediaWords.{words_audio}
use Rattle.sdp_audio.proofs.media.audio_of_value.Goals as goal

pub returns : goal.returns
returns c =
    let parts = c.in_ok-parts.parts in
    words_audio c.args.value.now parts.kind.now parts.port.now parts.transport.now parts.types.now c.in_ok-port.port
    (search rules) (search rules) (search rules) (search rules)
