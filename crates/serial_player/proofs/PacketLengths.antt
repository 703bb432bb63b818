-- A packet is as long as its output's, and a claim of it fits the fields of a result.
use Rattle.std.proofs.Common.{◌≡◌, ℕ, zero, suc, ◌+◌, ◌*◌, ◌^◌, ◌<◌, List, length, Option, Some}
use Rattle.std.proofs.Common.{None, refl, ap, ◌∙◌, map, arith, false, [], ◌++◌}
use Rattle.std.specs.List.{range_with_len}
use Rattle.std.specs.Option.{option_map_or}
use Rattle.std.specs.Prelude.{slice_get}
use Rattle.std.proofs.Math.Nat.{add-mul}
use Rattle.std.proofs.lemmas.List.{length-append, length-map}
use Rattle.std.proofs.lemmas.List.Concat.{flat_map-cons}
use Rattle.byteorder.specs.Endian.{big_bytes}
use Rattle.byteorder.specs.Numbers.{length-bytes_high_first}
use Rattle.io_caps.specs.Device.{IsDevice}
use Rattle.io_caps.specs.Rate.{bytes_per_sample}
use Rattle.io_caps.specs.declared.device.DeviceParts.{DeviceParts}
use Rattle.io_caps.specs.declared.port.Input.{Input}
use Rattle.io_caps.specs.declared.port.Output.{Output}
use Rattle.map_entry.specs.Setup.{SetupParts}
use Rattle.map_entry.specs.declared.entry.Entry.{Entry}
use Rattle.rtp_pcm.specs.Packet.{fixed_part}
use Rattle.rtp_pcm.specs.declared.packet.Head.{Head}
use Rattle.rtp_pcm.proofs.PcmLaws.{length-payload_of}
use Rattle.rtp_pcm.specs.Pcm.{payload_of}
use Rattle.packet_writer.specs.Flags.{closed_flags}
use Rattle.packet_writer.specs.Heard.{RowsByFrame, TickBlocks, heard, samples_from}
use Rattle.packet_writer.specs.Packet.{Blocks, FitOutput, claim_rows, found_block, head_of}
use Rattle.packet_writer.specs.Packet.{output_of_claim, output_packet, packet_by, packet_length}
use Rattle.packet_writer.specs.Packet.{packet_on, tick_of_claim}
use Rattle.packet_writer.proofs.ClaimLaws.{closed_flags-closed}
use Rattle.capture_file.specs.Result.{FitsClaim}
use Rattle.serial_player.specs.Claim.{FitsOutput, claim_by}
use Rattle.serial_player.proofs.ClaimRecords.{claim_record}

samples_long : (inputs : List Input) (blocks : TickBlocks) (rows : RowsByFrame)
    (channels from frames : ℕ) → ((f : ℕ) → f < from + frames → length (rows f) ≡ channels)
    → length (samples_from inputs blocks rows from frames) ≡ frames * channels
samples_long inputs blocks rows channels from zero each = omega arith
samples_long inputs blocks rows channels from (suc n) each =
    let of = λ (f : ℕ). map (heard inputs blocks f) (rows f) in
    let others = samples_long inputs blocks rows channels (from + 1) n
    (λ f lt. each f (omega (arith, lt))) in
    let sum : suc n * channels ≡ channels + n * channels = omega (arith, add-mul 1 n channels) in
    ap length (flat_map-cons of from (range_with_len (from + 1) n))
    ∙ omega (
      arith,
      length-append (of from) (samples_from inputs blocks rows (from + 1) n),
      length-map (rows from) (heard inputs blocks from),
      each from (omega arith),
      others,
      sum,
    )

head_long : (head : Head) → length (fixed_part false false 0 false head) ≡ 12
head_long head =
    omega (
      arith,
      length-append (big_bytes 2 head.sequence) (big_bytes 4 head.timestamp
          ++ big_bytes 4 head.ssrc),
      length-append (big_bytes 4 head.timestamp) (big_bytes 4 head.ssrc),
      length-bytes_high_first 2 head.sequence,
      length-bytes_high_first 4 head.timestamp,
      length-bytes_high_first 4 head.ssrc,
    )

long_where : (d : DeviceParts) (at : Option Output) (rows : RowsByFrame) (blocks : TickBlocks)
    (tick : ℕ)
    → ((f : ℕ) → f < d.rate.frames
    → length (rows f) ≡ option_map_or (λ o. length o.labels) at 0)
    → length (option_map_or (λ o. output_packet d.rate d.inputs o rows blocks tick) at [])
    ≡ option_map_or (λ o. 12 + d.rate.frames * length o.labels * bytes_per_sample o.width) at 0
long_where d None rows blocks tick each = refl
long_where d (Some o) rows blocks tick each =
    let samples = samples_from d.inputs blocks rows 0 d.rate.frames in
    let long : length samples * bytes_per_sample o.width
    ≡ d.rate.frames * length o.labels * bytes_per_sample o.width =
    ap (λ (n : ℕ). n * bytes_per_sample o.width)
    (samples_long d.inputs blocks rows (length o.labels) 0 d.rate.frames
    (λ f lt. each f (omega (arith, lt)))) in
    let head = fixed_part false false 0 false (head_of d.rate o tick) in
    omega (
      arith,
      length-append head (payload_of o.width samples),
      head_long (head_of d.rate o tick),
      length-payload_of o.width samples,
      long,
    )

-- where each row is as long as the output's channels
pub packet_long : (d : DeviceParts) (output : ℕ) (rows : RowsByFrame) (blocks : TickBlocks)
    (tick : ℕ) → FitOutput d output rows
    → length (packet_on d output rows blocks tick) ≡ packet_length d output
unfolding packet_on
packet_long d output rows blocks tick fit =
    long_where d (slice_get d.outputs output) rows blocks tick (λ f lt. (fit f lt).0)

-- a claim whose rows fit its output, with its flags in closed form
pub closed_fits : (s : SetupParts) (entries : List Entry) (blocks : Blocks) (k : ℕ)
    → IsDevice s.device → k < 256 ^ 8 → FitsOutput s entries k
    → FitsClaim s.device (claim_by s entries blocks k)
closed_fits s entries blocks k is low fit =
    let flags = closed_flags s entries blocks k in
    claim_record s.device k (output_of_claim s k) flags (packet_by s entries blocks flags k) low
    (closed_flags-closed s entries blocks k).long
    (packet_long s.device (output_of_claim s k) (claim_rows s entries k)
    (found_block blocks flags (tick_of_claim s k)) (tick_of_claim s k) fit) is
