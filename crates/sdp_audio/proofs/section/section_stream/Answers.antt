use Rattle.std.proofs.Common.{◌∙◌, ap, Option}
use Rattle.std.specs.Option.{option_or}
use Rattle.std.specs.Str.Lines.{lines}
use Rattle.sdp_audio.specs.declared.stream.Format.{Format}
use Rattle.sdp_audio.specs.Media.{format_for}
use Rattle.sdp_audio.specs.Section.{attributes_in, first_given}
use Rattle.sdp_audio.proofs.Sections.{section_is, none_at}
use Rattle.sdp_audio.proofs.section.section_stream.Goals as goal

pub returns : goal.returns
returns c =
    let attributes = attributes_in (lines c.args.below.now) in
    let media = c.in_ok-media.media in
    c.first_stream.ensures
    ∙ section_is c.args.line.now attributes media.port media.types.now c.note_formats.new.table c.in_ok-media.ensures
    (λ t below. c.note_formats.ensures.formats t below
    ∙ ap (λ (o : Option Format). option_or o (first_given (format_for t) attributes)) (none_at 128 t))
