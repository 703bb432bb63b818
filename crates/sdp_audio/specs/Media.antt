-- What two kinds of line say of audio: `m=`, which begins a section, and `a=rtpmap:`. (RFC 8866,
-- sections 5.14 and 6.6; RFC 3551, section 4.5.11, for L16; RFC 3190, section 4, for L24. That other
-- formats, media and transports are passed over is this project's own.)
use Rattle.std.specs.Prelude.{ℕ, ◌^◌, ◌-◌, Bool, true, false, not, ◌&&◌, ◌||◌, if◌then◌else◌}
use Rattle.std.specs.Prelude.{◌==◌, List, [], ◌∷◌, codes}
use Rattle.std.specs.Prelude.{Option, Some, None, option_map, is_some, is_none}
use Rattle.std.specs.List.{filter_map, list_all, before_first}
use Rattle.std.specs.Option.{option_map_or}
use Rattle.std.specs.Str.{bytes_eq, str_eq_ignore_ascii_case}
use Rattle.exact_text.specs.Readings.{◌>>=◌}
use Rattle.io_caps.specs.declared.limits.TheConstants.{MOST_PAYLOAD_TYPE}
use Rattle.io_caps.specs.declared.rate.Width.{Width}
use Rattle.io_caps.specs.declared.rate.Width.TheVariants.{L16, L24}
use Rattle.sdp_audio.specs.declared.stream.Format.{Format}
use Rattle.sdp_audio.specs.Line.{space, slash, after_prefix, cut_at, words, number_in}

-- ---- `m=MEDIA PORT TRANSPORT TYPE ..`

-- the words of an `m=` line
abbrev pub media_words : List ℕ → Option (List (List ℕ))
media_words line = option_map words (after_prefix (codes "m=") line)

-- the line is an `m=` line
abbrev pub is_media : List ℕ → Bool
is_media line = is_some (media_words line)

-- a port: a number alone, or before a '/'
abbrev pub port_of : List ℕ → Option ℕ
port_of word = number_in 0 65535 (before_first (λ b. b == slash) word)

-- a payload type
abbrev pub type_of : List ℕ → Option ℕ
type_of word = number_in 0 MOST_PAYLOAD_TYPE word

-- the medium is audio
abbrev pub is_audio : List (List ℕ) → Bool
is_audio [] = false
is_audio (kind ∷ more) = bytes_eq kind (codes "audio")

-- the transport is RTP with the profile for audio
abbrev pub is_rtp : List ℕ → Bool
is_rtp transport = bytes_eq transport (codes "RTP/AVP")

-- the words of an `m=` line of audio have a fault: there are fewer than four, or the port is none,
-- or a payload type of RTP is none
abbrev pub has_media_fault : List (List ℕ) → Bool
has_media_fault (kind ∷ port ∷ transport ∷ type ∷ types) = is_none (port_of port)
    || (is_rtp transport && not (list_all (λ word. is_some (type_of word)) (type ∷ types)))
has_media_fault fewer = true

-- the line is an `m=` line of audio with such a fault
abbrev pub is_bad_media : List ℕ → Bool
is_bad_media line =
    option_map_or (λ parts. is_audio parts && has_media_fault parts) (media_words line) false

-- audio over RTP: the port, and the payload types in their order
pub record RtpAudio : Type 0 where
  pub port : ℕ
  pub types : List ℕ

-- the audio over RTP that the words of an `m=` line offer, if they do and have no fault
abbrev pub audio_of : List (List ℕ) → Option RtpAudio
audio_of (kind ∷ port ∷ transport ∷ type ∷ types) =
    if bytes_eq kind (codes "audio") && is_rtp transport
    then option_map (λ number. record { port = number; types = filter_map type_of (type ∷ types) })
    (port_of port)
    else None
audio_of fewer = None

-- the audio over RTP that an `m=` line offers, if it does and has no fault
abbrev pub line_audio : List ℕ → Option RtpAudio
line_audio line = media_words line >>= audio_of

-- ---- `a=rtpmap:TYPE NAME/HZ` and `a=rtpmap:TYPE NAME/HZ/CHANNELS`

-- the sample width of a format's name, in which case does not count
abbrev pub width_named : List ℕ → Option Width
width_named name =
    if str_eq_ignore_ascii_case name (codes "L16") then Some L16
    else if str_eq_ignore_ascii_case name (codes "L24") then Some L24
    else None

-- the type, the width, and what follows the '/': of values that begin with a payload type, one
-- space, one of the two names and '/'
abbrev pub mapping_of : List ℕ → Option (ℕ × (Width × List ℕ))
mapping_of value = do
  type ← cut_at space value
  number ← type_of type.0
  name ← cut_at slash type.1
  width ← width_named name.0
  Some (number, (width, name.1))

-- the same of a whole line
abbrev pub line_mapping : List ℕ → Option (ℕ × (Width × List ℕ))
line_mapping line = after_prefix (codes "a=rtpmap:") line >>= mapping_of

-- HZ
abbrev pub hz_of : List ℕ → Option ℕ
hz_of text = number_in 1 (2 ^ 32 - 1) text

-- CHANNELS
abbrev pub channels_of : List ℕ → Option ℕ
channels_of text = number_in 1 255 text

-- a rate alone is of one channel
abbrev pub sampling_in : List ℕ → Option (List ℕ × List ℕ) → Option (ℕ × ℕ)
sampling_in text None = option_map (λ hz. (hz, 1)) (hz_of text)
sampling_in text (Some parts) = do
  hz ← hz_of parts.0
  channels ← channels_of parts.1
  Some (hz, channels)

-- the rate and the channels of HZ or HZ/CHANNELS
abbrev pub sampling_of : List ℕ → Option (ℕ × ℕ)
sampling_of text = sampling_in text (cut_at slash text)

-- the line maps a payload type to one of the two names, and the rate or the channels have a fault
abbrev pub is_bad_mapping : List ℕ → Bool
is_bad_mapping line =
    option_map_or (λ mapping. is_none (sampling_of mapping.1.1)) (line_mapping line) false

-- the payload type to which the line gives a format, and the format
abbrev pub line_format : List ℕ → Option (ℕ × Format)
line_format line = do
  mapping ← line_mapping line
  sampling ← sampling_of mapping.1.1
  Some (mapping.0, record { width = mapping.1.0; hz = sampling.0; channels = sampling.1 })

-- the format that the line gives this payload type, if it does
abbrev pub format_for : ℕ → List ℕ → Option Format
format_for type line =
    line_format line >>= λ given. (if given.0 == type then Some given.1 else None)
