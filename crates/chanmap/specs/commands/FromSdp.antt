-- What `from-sdp` reads and makes. (This project's own.)
use Rattle.std.specs.Prelude.{◌≡◌, ◌≢◌, ℕ, List, [], ◌++◌, length, map}
use Rattle.std.specs.List.{enumerate_from, range_with_len}
use Rattle.io_caps.specs.Device.{IsDevice}
use Rattle.map_entry.specs.Setup.{SetupParts, setup_of}
use Rattle.map_entry.specs.declared.cell.Cell.{Cell}
use Rattle.map_entry.specs.declared.cell.Cell.TheVariants.{From}
use Rattle.capture_file.specs.Capture.{CaptureParts, IsCaptureText, capture_of, opening_of}
use Rattle.capture_file.specs.Device.{device_text}
use Rattle.capture_file.specs.Formats.{capture_magic}
use Rattle.capture_file.specs.Items.{end_text}
use Rattle.capture_file.specs.declared.format.Format.TheVariants.{Two}
use Rattle.sdp_audio.specs.Fault.{HasNoFault, IsSdpFault}
use Rattle.sdp_audio.specs.Made.{HasOneRate, IsMakeFault, device_of}
use Rattle.sdp_audio.specs.Section.{sdp_streams}
use Rattle.sdp_audio.specs.declared.stream.Stream.{Stream}
use Rattle.chanmap.specs.World.{World}
use Rattle.chanmap.specs.declared.end.SdpRefusal.{SdpRefusal}
use Rattle.chanmap.specs.declared.end.SdpRefusal.TheVariants.{Text, Streams}

-- a device is made of streams with this many frames a tick: there is a stream, they have one rate,
-- and the device is within its limits
pub record AreMade (frames : ℕ) (streams : List Stream) : Type 0 where
  pub some : streams ≢ []
  pub one_rate : HasOneRate streams
  pub device : IsDevice (device_of streams frames)

-- its input: a session description without a fault, of whose streams a device is made
pub record IsFromSdpInput (frames : ℕ) (text : List ℕ) : Type 0 where
  pub good : HasNoFault text
  pub made : AreMade frames (sdp_streams text)

-- why no capture is made of another text: its first fault; or, where it has none, the first reason
-- why no device is made of its streams
abbrev pub IsFromSdpRefusal : ℕ → List ℕ → SdpRefusal → Type 0
IsFromSdpRefusal frames text (Text fault) = IsSdpFault text fault
IsFromSdpRefusal frames text (Streams fault) =
    HasNoFault text × IsMakeFault (sdp_streams text) frames fault

-- ---- the setup that is made

-- a row that routes each channel from the same one of the input of a number
abbrev pub straight_row : ℕ × Stream → List Cell
straight_row (input, stream) = map (λ channel. From input channel) (range_with_len 0 stream.channels)

-- each output is routed from the input of its number
abbrev pub straight_rows : List Stream → List (List Cell)
straight_rows streams = map straight_row (enumerate_from 0 streams)

-- the device of streams, with these base rows
abbrev pub made_setup : ℕ → List Stream → SetupParts
made_setup frames streams = setup_of (device_of streams frames) (straight_rows streams)

-- ---- the capture that is made

-- what stands in front of its last record: the magic of format 2, and the record of a plain device
abbrev pub made_front : SetupParts → List ℕ
made_front setup = capture_magic Two ++ device_text (setup.device, setup.rows)

-- the capture of format 2 that has this setup and no records
abbrev pub made_capture : SetupParts → CaptureParts
made_capture setup = capture_of (opening_of Two setup (length (made_front setup))) [] 0

-- its text, which says no grain
abbrev pub made_text : SetupParts → List ℕ
made_text setup = capture_magic Two ++ (device_text (setup.device, setup.rows) ++ end_text)

-- The bytes are a session description of which a capture is made, and this text is that capture's.
pub record IsFromSdpAnswer (frames : ℕ) (bytes text : List ℕ) : Type 0 where
  pub input : IsFromSdpInput frames bytes
  pub spelled : text ≡ made_text (made_setup frames (sdp_streams bytes))
  pub read : IsCaptureText (made_capture (made_setup frames (sdp_streams bytes))) text

-- It does nothing else: what the sink of the lines took stays.
abbrev pub FromSdpRest : World → World → Type 0
FromSdpRest before after = after.told ≡ before.told
