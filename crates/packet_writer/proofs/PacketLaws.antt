-- When two packets are the same: laws for the crates above.
use Rattle.std.proofs.Common.{◌≡◌, length, ℕ, zero, suc, ◌+◌, ◌*◌, ◌≤◌, ◌<◌, true, List, [], ◌∷◌, ℤ}
use Rattle.std.proofs.Common.{map, Some, None, Option, refl, ap, ◌∙◌, arith, zero-add}
use Rattle.std.specs.Prelude.{slice_get, eqb}
use Rattle.std.specs.List.{range_with_len}
use Rattle.std.specs.Option.{option_map_or}
use Rattle.std.proofs.lemmas.List.Folds.{list_any_at}
use Rattle.std.proofs.lemmas.List.FromFn.{get_or-range_with_len, length-range_with_len}
use Rattle.std.specs.List.{AllByRecursion}
use Rattle.std.proofs.lemmas.List.Elements.{recursion_from_All}
use Rattle.std.proofs.lemmas.Bool.{or_left, or_right, eq-eqb}
use Rattle.list_laws.proofs.Ranges.{flat_map_same, any_same}
use Rattle.io_caps.specs.Device.{IsDevice}
use Rattle.io_caps.specs.Port.{FitsPacket}
use Rattle.io_caps.specs.Rate.{bytes_per_sample}
use Rattle.io_caps.specs.declared.limits.TheConstants.{MOST_PAYLOAD}
use Rattle.io_caps.specs.declared.device.DeviceParts.{DeviceParts}
use Rattle.io_caps.specs.declared.port.Input.{Input}
use Rattle.io_caps.specs.declared.port.Output.{Output}
use Rattle.map_entry.specs.declared.cell.Cell.{Cell}
use Rattle.map_entry.specs.declared.cell.Cell.TheVariants.{Unrouted, From}
use Rattle.map_entry.specs.Row.{channels_of, names}
use Rattle.rtp_pcm.specs.Packet.{rtp_packet}
use Rattle.rtp_pcm.specs.Pcm.{payload_of}
use Rattle.packet_writer.specs.Flags.{is_named, row_names}
use Rattle.packet_writer.specs.Heard.{AreRows, RowsByFrame, TickBlocks, heard, samples_from}
use Rattle.packet_writer.specs.Heard.{sample_in}
use Rattle.packet_writer.specs.Packet.{head_of, output_packet, packet_length, packet_on}

-- ---- what rows take

-- a row whose named inputs have the same blocks takes the same
pub row_same : (inputs : List Input) (b c : TickBlocks) (frame : ℕ) (row : List Cell)
    → ((input : ℕ) → row_names input row ≡ true → b input ≡ c input)
    → map (heard inputs b frame) row ≡ map (heard inputs c frame) row
row_same inputs b c frame [] same = refl
row_same inputs b c frame (Unrouted ∷ row) same =
    ap (λ (zs : List ℤ). sample_in None 0 ∷ zs) (row_same inputs b c frame row same)
row_same inputs b c frame (From input channel ∷ row) same =
    let here : b input ≡ c input =
    same input (or_left (eqb input input) (row_names input row) (eq-eqb input input refl)) in
    ap (λ (block : Option (List ℤ)). sample_in block (frame * channels_of inputs input + channel)
    ∷ map (heard inputs b frame) row) here
    ∙ ap (λ (zs : List ℤ). sample_in (c input) (frame * channels_of inputs input + channel) ∷ zs)
    (row_same inputs b c frame row
    (λ i named. same i (or_right (names i (From input channel)) (row_names i row) named)))

-- what the row of one of the frames names, the packet names
pub named_at : (frames : ℕ) (rows : RowsByFrame) (frame input : ℕ) → frame < frames
    → row_names input (rows frame) ≡ true → is_named frames rows input ≡ true
named_at frames rows frame input lt named =
    list_any_at (λ f. row_names input (rows f)) (range_with_len 0 frames) frame 0
    (rw (length-range_with_len 0 frames) lt)
    (ap (λ (f : ℕ). row_names input (rows f))
    (get_or-range_with_len 0 frames frame 0 lt ∙ zero-add frame) ∙ named)

-- frames with the same rows name the same inputs
pub is_named-same : (frames : ℕ) (r s : RowsByFrame) → AreRows frames r s → (input : ℕ)
    → is_named frames r input ≡ is_named frames s input
is_named-same frames r s rows input =
    any_same (λ f. row_names input (r f)) (λ f. row_names input (s f)) 0 frames
    (λ f from to. ap (row_names input) (rows f (omega (arith, to))))

-- frames with the same rows, whose named inputs have the same blocks, have the same samples
pub samples_same : (inputs : List Input) (b c : TickBlocks) (r s : RowsByFrame) (frames : ℕ)
    → AreRows frames r s
    → ((input : ℕ) → is_named frames r input ≡ true → b input ≡ c input)
    → samples_from inputs b r 0 frames ≡ samples_from inputs c s 0 frames
samples_same inputs b c r s frames rows blocks =
    flat_map_same (λ f. map (heard inputs b f) (r f)) (λ f. map (heard inputs c f) (s f)) 0 frames
    (λ f from to.
    let lt : f < frames = omega (arith, to) in
    row_same inputs b c f (r f) (λ input named. blocks input (named_at frames r f input lt named))
    ∙ ap (λ (row : List Cell). map (heard inputs c f) row) (rows f lt))

-- ---- packets

-- the packet of an output that is there
pub packet_there : (d : DeviceParts) (output : ℕ) (o : Output) (rows : RowsByFrame) (b : TickBlocks)
    (tick : ℕ) → slice_get d.outputs output ≡ Some o
    → output_packet d.rate d.inputs o rows b tick ≡ packet_on d output rows b tick
unfolding packet_on
packet_there d output o rows b tick there = rw there refl

packet_where : (d : DeviceParts) (found : Option Output) (r s : RowsByFrame) (b c : TickBlocks)
    (tick : ℕ)
    → samples_from d.inputs b r 0 d.rate.frames ≡ samples_from d.inputs c s 0 d.rate.frames
    → option_map_or (λ o. output_packet d.rate d.inputs o r b tick) found []
    ≡ option_map_or (λ o. output_packet d.rate d.inputs o s c tick) found []
packet_where d None r s b c tick same = refl
packet_where d (Some o) r s b c tick same =
    ap (λ (z : List ℤ). rtp_packet (head_of d.rate o tick) (payload_of o.width z)) same

-- the same rows and, for the inputs that they name, the same blocks give the same packet
pub packet_on-same : (d : DeviceParts) (output : ℕ) (r s : RowsByFrame) (b c : TickBlocks)
    (tick : ℕ) → AreRows d.rate.frames r s
    → ((input : ℕ) → is_named d.rate.frames r input ≡ true → b input ≡ c input)
    → packet_on d output r b tick ≡ packet_on d output s c tick
unfolding packet_on
packet_on-same d output r s b c tick rows blocks =
    packet_where d (slice_get d.outputs output) r s b c tick
    (samples_same d.inputs b c r s d.rate.frames rows blocks)

-- ---- how long a packet is

short : (d : DeviceParts) (outputs : List Output) (output : ℕ)
    → AllByRecursion (FitsPacket d.rate) outputs
    → option_map_or (λ o. 12 + d.rate.frames * length o.labels * bytes_per_sample o.width)
    (slice_get outputs output) 0 ≤ 12 + MOST_PAYLOAD
short d [] output fits = omega arith
short d (o ∷ outputs) zero fits = omega (arith, fits.0)
short d (o ∷ outputs) (suc output) fits = short d outputs output fits.1

-- a packet of a device is short
pub packet_short : (d : DeviceParts) (output : ℕ) → IsDevice d
    → packet_length d output ≤ 12 + MOST_PAYLOAD
packet_short d output is = short d d.outputs output
    (recursion_from_All (FitsPacket d.rate) d.outputs is.routes.packets)
