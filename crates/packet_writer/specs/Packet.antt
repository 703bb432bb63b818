-- The packet of a claim: by a list of entries, found flags and input blocks. (This project's own;
-- the layout of a packet is that of RFC 3550, section 5.1.)
use Rattle.std.specs.Prelude.{◌≡◌, ℕ, ◌+◌, ◌*◌, ◌%◌, ◌^◌, ◌<◌, if◌then◌else◌, All, Bool, false}
use Rattle.std.specs.Prelude.{List, [], length, slice_get, slice_index_or, None}
use Rattle.std.specs.Option.{option_map_or, unwrap_or}
use Rattle.io_caps.specs.declared.device.DeviceParts.{DeviceParts}
use Rattle.io_caps.specs.declared.port.Input.{Input}
use Rattle.io_caps.specs.declared.port.Output.{Output}
use Rattle.io_caps.specs.declared.rate.Rate.{Rate}
use Rattle.io_caps.specs.Rate.{bytes_per_sample}
use Rattle.map_entry.specs.declared.cell.Cell.{Cell}
use Rattle.map_entry.specs.declared.entry.Entry.{Entry}
use Rattle.map_entry.specs.Entry.{selected}
use Rattle.map_entry.specs.Setup.{SetupParts}
use Rattle.map_entry.specs.Row.{IsChannelThere, channels_of_output}
use Rattle.map_entry.specs.Tick.{claim_output, claim_tick, frame_key}
use Rattle.rtp_pcm.specs.declared.packet.Head.{Head}
use Rattle.rtp_pcm.specs.Pcm.{payload_of}
use Rattle.rtp_pcm.specs.Packet.{rtp_packet}
use Rattle.packet_writer.specs.Heard.{RowsByFrame, TickBlocks, samples_from}

-- blocks by input and tick: the samples, or none
abbrev pub Blocks : Type 0
Blocks = ℕ → TickBlocks

-- ---- the packet of an output at a tick

-- the head: the fields are those of RFC 3550, section 5.1; that sequence number and timestamp
-- follow from the tick is this project's own
abbrev pub head_of : Rate → Output → ℕ → Head
head_of rate output tick =
    record {
      payload_type = output.payload_type;
      sequence = tick % 2 ^ 16;
      timestamp = tick * rate.frames % 2 ^ 32;
      ssrc = output.ssrc;
    }

-- the packet of an output's head at a tick, and of what its rows take of the tick's blocks
abbrev pub output_packet : Rate → List Input → Output → RowsByFrame → TickBlocks → ℕ → List ℕ
output_packet rate inputs output rows blocks tick =
    rtp_packet (head_of rate output tick)
    (payload_of output.width (samples_from inputs blocks rows 0 rate.frames))

-- the packet of the device's output with this number; nothing where there is none
unfoldable pub packet_on : DeviceParts → ℕ → RowsByFrame → TickBlocks → ℕ → List ℕ
packet_on d output rows blocks tick =
    option_map_or (λ o. output_packet d.rate d.inputs o rows blocks tick)
    (slice_get d.outputs output) []

-- its bytes: a head without CSRCs (RFC 3550, section 5.1), and the samples of a tick
abbrev pub packet_length : DeviceParts → ℕ → ℕ
packet_length d output =
    option_map_or (λ o. 12 + d.rate.frames * length o.labels * bytes_per_sample o.width)
    (slice_get d.outputs output) 0

-- a row has a cell for each of a given number of channels, and these name channels that are there
abbrev pub RowFits : List Input → ℕ → List Cell → Type 0
RowFits inputs channels row = (length row ≡ channels) × All (IsChannelThere inputs) row

-- so do the rows of a given number of frames
abbrev pub RowsFit : List Input → ℕ → ℕ → RowsByFrame → Type 0
RowsFit inputs channels frames rows =
    (frame : ℕ) → frame < frames → RowFits inputs channels (rows frame)

-- the rows of a tick fit an output
abbrev pub FitOutput : DeviceParts → ℕ → RowsByFrame → Type 0
FitOutput d output rows = RowsFit d.inputs (channels_of_output d output) d.rate.frames rows

-- ---- the packet of a claim

-- the output of a claim
abbrev pub output_of_claim : SetupParts → ℕ → ℕ
output_of_claim s k = claim_output (length s.device.outputs) k

-- the tick of a claim
abbrev pub tick_of_claim : SetupParts → ℕ → ℕ
tick_of_claim s k = claim_tick s.device.base (length s.device.outputs) k

-- the rows that rule an output's packet of a tick, each at its frame
abbrev pub row_at : List Entry → ℕ → ℕ → RowsByFrame
row_at entries output tick = λ frame. unwrap_or (selected entries output (frame_key tick frame)) []

-- the flag of an input; past the end none is set
abbrev pub flag_of : List Bool → ℕ → Bool
flag_of flags input = slice_index_or flags input false

-- an input's block at a tick, where its flag is set
abbrev pub found_block : Blocks → List Bool → ℕ → TickBlocks
found_block blocks flags tick input = if flag_of flags input then blocks input tick else None

-- the rows of a claim's packet
abbrev pub claim_rows : SetupParts → List Entry → ℕ → RowsByFrame
claim_rows s entries k = row_at entries (output_of_claim s k) (tick_of_claim s k)

-- the packet of claim k, by a list of entries and the flags of what was found of the blocks
abbrev pub packet_by : SetupParts → List Entry → Blocks → List Bool → ℕ → List ℕ
packet_by s entries blocks flags k =
    packet_on s.device (output_of_claim s k) (claim_rows s entries k)
    (found_block blocks flags (tick_of_claim s k)) (tick_of_claim s k)
