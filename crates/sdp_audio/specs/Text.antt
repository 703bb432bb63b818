-- The description that is written of a device. (RFC 8866, section 5, for the lines, sections 5.14,
-- 6.4 and 6.6 for those of a section. That the session is one of this host, and the ports, are this
-- project's own.)
use Rattle.std.specs.Prelude.{ℕ, ◌+◌, ◌*◌, ◌-◌, ◌/◌, ◌%◌, ◌^◌, ◌==◌, if◌then◌else◌}
use Rattle.std.specs.Prelude.{List, [], ◌∷◌, ◌++◌, length, take, map, flat_map, codes, decimal}
use Rattle.std.specs.List.{enumerate_from, suffix_len}
use Rattle.io_caps.specs.declared.device.DeviceParts.{DeviceParts}
use Rattle.io_caps.specs.declared.port.Output.{Output}
use Rattle.io_caps.specs.declared.rate.Rate.{Rate}
use Rattle.io_caps.specs.declared.rate.Width.{Width}
use Rattle.io_caps.specs.declared.rate.Width.TheVariants.{L16, L24}
use Rattle.sdp_audio.specs.declared.limits.TheConstants.{FIRST_PORT, PORTS_EACH}
use Rattle.sdp_audio.specs.declared.stream.Stream.{Stream}

-- the lines of the session
abbrev pub session_lines : List (List ℕ)
session_lines =
    codes "v=0" ∷ codes "o=- 0 0 IN IP4 127.0.0.1" ∷ codes "s=chanmap"
    ∷ codes "c=IN IP4 127.0.0.1" ∷ codes "t=0 0" ∷ []

-- the port of an output
abbrev pub port_to : ℕ → ℕ
port_to output = FIRST_PORT + PORTS_EACH * output

-- the name of a format
abbrev pub name_of : Width → List ℕ
name_of L16 = codes "L16"
name_of L24 = codes "L24"

-- `m=audio PORT RTP/AVP TYPE`
unfoldable pub media_line : ℕ → ℕ → List ℕ
media_line port type =
    codes "m=audio " ++ (decimal port ++ (codes " RTP/AVP " ++ decimal type))

-- `NAME/HZ/CHANNELS`
unfoldable pub format_text : Width → ℕ → ℕ → List ℕ
format_text width hz channels =
    name_of width ++ (codes "/" ++ (decimal hz ++ (codes "/" ++ decimal channels)))

-- `a=rtpmap:TYPE NAME/HZ/CHANNELS`
unfoldable pub mapping_line : ℕ → Width → ℕ → ℕ → List ℕ
mapping_line type width hz channels =
    codes "a=rtpmap:" ++ (decimal type ++ (codes " " ++ format_text width hz channels))

-- the three digits of a number below 1000
abbrev pub three_digits : ℕ → List ℕ
three_digits n = (48 + n / 100) ∷ (48 + n / 10 % 10) ∷ (48 + n % 10) ∷ []

-- a point and the digits after it, without zeros at the end
abbrev pub fraction : ℕ → List ℕ
fraction n = 46 ∷ take (3 - suffix_len (λ b. b == 48) (three_digits n)) (three_digits n)

-- a number of microseconds, in milliseconds
abbrev pub milliseconds : ℕ → List ℕ
milliseconds micros =
    decimal (micros / 1000) ++ (if micros % 1000 == 0 then [] else fraction (micros % 1000))

-- `a=ptime:MILLISECONDS`
unfoldable pub ptime_line : ℕ → List ℕ
ptime_line micros = codes "a=ptime:" ++ milliseconds micros

-- the line that tells the time of a packet, where that is a whole number of microseconds
abbrev pub ptime_lines : Rate → List (List ℕ)
ptime_lines rate =
    if rate.frames * 10 ^ 6 % rate.hz == 0
    then ptime_line (rate.frames * 10 ^ 6 / rate.hz) ∷ []
    else []

-- the lines of an output
abbrev pub output_lines : Rate → ℕ × Output → List (List ℕ)
output_lines rate (number, output) =
    media_line (port_to number) output.payload_type
    ∷ mapping_line output.payload_type output.width rate.hz (length output.labels)
    ∷ ptime_lines rate

-- the lines of a device
abbrev pub sdp_lines : DeviceParts → List (List ℕ)
sdp_lines device =
    session_lines ++ flat_map (output_lines device.rate) (enumerate_from 0 device.outputs)

-- a line and its end, CR LF
abbrev pub ended : List ℕ → List ℕ
ended line = line ++ 13 ∷ 10 ∷ []

-- the description of a device
abbrev pub sdp_text : DeviceParts → List ℕ
sdp_text device = flat_map ended (sdp_lines device)

-- the stream of an output
abbrev pub output_stream : Rate → ℕ × Output → Stream
output_stream rate (number, output) = record {
  port = port_to number;
  payload_type = output.payload_type;
  width = output.width;
  hz = rate.hz;
  channels = length output.labels;
}

-- the streams that a device sends
abbrev pub device_streams : DeviceParts → List Stream
device_streams device = map (output_stream device.rate) (enumerate_from 0 device.outputs)
