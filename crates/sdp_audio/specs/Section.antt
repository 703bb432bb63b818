-- The streams of a description. (RFC 8866, section 5: a section is an `m=` line and the lines below
-- it up to the next one. RFC 3551, section 6, for the types 10 and 11.)
use Rattle.std.specs.Prelude.{ℕ, not, if◌then◌else◌, ◌==◌, List, [], ◌∷◌, take_while}
use Rattle.std.specs.Prelude.{Option, Some, None, option_map, filter_map}
use Rattle.std.specs.Option.{option_or}
use Rattle.std.specs.Str.Lines.{lines}
use Rattle.exact_text.specs.Readings.{◌>>=◌}
use Rattle.io_caps.specs.declared.rate.Width.TheVariants.{L16}
use Rattle.sdp_audio.specs.declared.stream.Format.{Format}
use Rattle.sdp_audio.specs.declared.stream.Stream.{Stream}
use Rattle.sdp_audio.specs.Media.{is_media, line_audio, format_for}

-- an `m=` line, and the lines of its section below it
pub record Section : Type 0 where
  pub media : List ℕ
  pub attributes : List (List ℕ)

-- the lines down to the next `m=` line
abbrev pub attributes_in : List (List ℕ) → List (List ℕ)
attributes_in below = take_while (λ line. not (is_media line)) below

-- each `m=` line with the lines between it and the next one
abbrev pub sections : List (List ℕ) → List Section
sections [] = []
sections (line ∷ below) =
    if is_media line
    then record { media = line; attributes = attributes_in below } ∷ sections below
    else sections below

-- what is given for the first item for which something is
abbrev pub first_given : {X Y : Type 0} → (X → Option Y) → List X → Option Y
first_given give [] = None
first_given give (x ∷ xs) = option_or (give x) (first_given give xs)

-- the formats of the payload types that stand for one without a line
abbrev pub static_format : ℕ → Option Format
static_format type =
    if type == 10 then Some (record { width = L16; hz = 44100; channels = 2 })
    else if type == 11 then Some (record { width = L16; hz = 44100; channels = 1 })
    else None

-- the format of a payload type in a section: that of the first line that gives it one, or else the
-- one that it stands for
abbrev pub format_in : List (List ℕ) → ℕ → Option Format
format_in attributes type = option_or (first_given (format_for type) attributes) (static_format type)

-- a stream to a port
abbrev pub stream_by : ℕ → ℕ → Format → Stream
stream_by port type format = record {
  port = port;
  payload_type = type;
  width = format.width;
  hz = format.hz;
  channels = format.channels;
}

-- the stream of a section: that of its first payload type with a format
abbrev pub stream_of : Section → Option Stream
stream_of section = do
  audio ← line_audio section.media
  first_given (λ type. option_map (stream_by audio.port type) (format_in section.attributes type))
      audio.types

-- the streams of a text without a fault, in the order of its sections. A line ends with LF or with
-- CR LF, which the last line may lack; so a CR at the end of the text is a part of its line.
abbrev pub sdp_streams : List ℕ → List Stream
sdp_streams text = filter_map stream_of (sections (lines text))
