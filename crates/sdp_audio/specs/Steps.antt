-- What the parts of the reader answer. (This project's own.)
use Rattle.std.specs.Prelude.{ℕ, List, [], slice_index_or, filter_map}
use Rattle.std.specs.Prelude.{Option, None, option_map}
use Rattle.std.specs.Option.{option_or}
use Rattle.exact_text.specs.Readings.{◌>>=◌}
use Rattle.sdp_audio.specs.declared.media.RtpMedia.{RtpMedia}
use Rattle.sdp_audio.specs.declared.stream.Format.{Format}
use Rattle.sdp_audio.specs.declared.stream.Stream.{Stream}
use Rattle.sdp_audio.specs.Line.{words}
use Rattle.sdp_audio.specs.Media.{RtpAudio, type_of}
use Rattle.sdp_audio.specs.Section.{Section, static_format, stream_by}

-- audio over RTP whose payload types are still words
abbrev pub rtp_audio : RtpMedia → RtpAudio
rtp_audio media =
    record { port = media.port; types = filter_map type_of (words media.types.now) }

-- the section of an `m=` line and lines
abbrev pub section : List ℕ → List (List ℕ) → Section
section line attributes = record { media = line; attributes = attributes }

-- the format of a payload type by a table of those that lines give
abbrev pub table_format : List (Option Format) → ℕ → Option Format
table_format table type = option_or (slice_index_or table type None) (static_format type)

-- the stream of a word that is a payload type with a format
abbrev pub word_stream : ℕ → List (Option Format) → List ℕ → Option Stream
word_stream port table word =
    type_of word >>= λ type. option_map (stream_by port type) (table_format table type)
