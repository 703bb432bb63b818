-- Tables of blocks.
use Rattle.std.proofs.Common.{◌≡◌, ℕ, ◌+◌, ◌*◌, ◌<◌, ◌≤◌, List, [], ◌∷◌, ◌++◌, ℤ, length, get_or}
use Rattle.std.proofs.Common.{take, map, Option, Some, None, inl, inr, refl, sym, ap, ◌∙◌, zero-add}
use Rattle.std.proofs.Common.{arith}
use Rattle.std.specs.Prelude.{option_and_then, slice_get}
use Rattle.std.specs.List.{cons_option}
use Rattle.std.proofs.lemmas.Bool.{cases_lt}
use Rattle.std.proofs.lemmas.List.{append-nil, get_or_past, map-append, take_more}
use Rattle.std.proofs.lemmas.List.Elements.{filter_map-append}
use Rattle.std.proofs.lemmas.List.FromFn.{get_or-map-range_with_len, length-map-range_with_len}
use Rattle.std.proofs.lemmas.Option.{unwrap_or-slice_get, slice_get_past}
use Rattle.std.proofs.Math.Nat.{div-lt_iff_lt-mul}
use Rattle.io_caps.specs.declared.device.DeviceParts.{DeviceParts}
use Rattle.io_caps.specs.declared.port.Input.{Input}
use Rattle.map_entry.specs.Row.{channels_of}
use Rattle.map_entry.specs.Setup.{SetupParts}
use Rattle.block_builder.specs.Blocks.{block_at, block_of, intake_for, intake_of}
use Rattle.block_builder.specs.Building.{session_blocks}
use Rattle.block_builder.specs.declared.arrival.Arrival.{Arrival}
use Rattle.block_builder.specs.declared.arrival.Arrival.TheVariants.{Packet, End}
use Rattle.block_builder.specs.declared.intake.Intake.{Intake}
use Rattle.block_builder.proofs.BlockLaws.{block_long, block_mark}
use Rattle.capture_file.specs.Packets.{packet_at, packets_of}
use Rattle.capture_file.specs.declared.items.Item.{Item}
use Rattle.packet_writer.specs.Heard.{HasFrames}
use Rattle.serial_player.specs.Arrivals.{arrivals_of, blocks_in}
use Rattle.serial_player.specs.Table.{BlockTable, HasTick, IsTable, input_blocks, place_of_claim}
use Rattle.serial_player.specs.Table.{placed, table_of}
use Rattle.list_laws.proofs.Ranges.{map_same_below}

-- ---- blocks have the frames of a tick

block_frames : (n : Intake) (arrivals : List Arrival) (tick : ℕ) (block : Option (List ℤ))
    → block_at n arrivals tick ≡ block → HasFrames block n.channels n.frames
block_frames n arrivals tick None e = tt
block_frames n arrivals tick (Some samples) e =
    rw (block_long n arrivals tick samples e) (omega arith)

frames_by : (d : DeviceParts) (input ticks : ℕ) (arrivals : List Arrival) (tick : ℕ)
    (found : Option Input) → slice_get d.inputs input ≡ found
    → HasFrames (block_of d input ticks arrivals tick) (channels_of d.inputs input) d.rate.frames
frames_by d input ticks arrivals tick None e = rw e tt
frames_by d input ticks arrivals tick (Some i) e =
    let n = intake_for d i ticks in
    rw e (block_frames n arrivals tick (block_at n arrivals tick) refl)

frames_in : (d : DeviceParts) (items : List Item) (ticks input tick : ℕ)
    → HasFrames (blocks_in d items ticks input tick) (channels_of d.inputs input) d.rate.frames
frames_in d items ticks input tick =
    frames_by d input ticks (arrivals_of items input) tick (slice_get d.inputs input) refl

none_in : (d : DeviceParts) (items : List Item) (ticks input tick : ℕ) (found : Option Input)
    → slice_get d.inputs input ≡ found → found ≡ None → blocks_in d items ticks input tick ≡ None
none_in d items ticks input tick found e none = rw (e ∙ none) refl

-- ---- what a table has

-- past its inputs it has nothing
pub past_inputs : (table : BlockTable) (place input : ℕ) → length table ≤ input
    → placed table place input ≡ None
past_inputs table place input past = rw (get_or_past table input [] past) refl

past_ticks : (d : DeviceParts) (items : List Item) (ticks place input : ℕ) → input < length d.inputs
    → ticks ≤ place → placed (table_of d items ticks) place input ≡ None
past_ticks d items ticks place input there past =
    rw (get_or-map-range_with_len (input_blocks d items ticks) 0
    (length d.inputs) input input [] there (zero-add input))
    (unwrap_or-slice_get (input_blocks d items ticks input) place None
    ∙ get_or_past (input_blocks d items ticks input) place None
    (rw (length-map-range_with_len (λ (k : ℕ). blocks_in d items ticks input (d.base + k)) 0 ticks)
    past))

placed_in : (d : DeviceParts) (items : List Item) (ticks place input : ℕ) → input < length d.inputs
    → place < ticks → placed (table_of d items ticks) place input
    ≡ blocks_in d items ticks input (d.base + place)
placed_in d items ticks place input there lt =
    rw (get_or-map-range_with_len (input_blocks d items ticks) 0
    (length d.inputs) input input [] there (zero-add input))
    (unwrap_or-slice_get (input_blocks d items ticks input) place None
    ∙ get_or-map-range_with_len (λ (k : ℕ). blocks_in d items ticks input (d.base + k)) 0 ticks
    place place None lt (zero-add place))

table_long : (d : DeviceParts) (items : List Item) (ticks : ℕ)
    → length (table_of d items ticks) ≡ length d.inputs
table_long d items ticks =
    length-map-range_with_len (input_blocks d items ticks) 0 (length d.inputs)

whole_at : (d : DeviceParts) (items : List Item) (ticks place input : ℕ)
    → HasFrames (placed (table_of d items ticks) place input) (channels_of d.inputs input)
    d.rate.frames
whole_at d items ticks place input = elim (cases_lt input (length d.inputs)) [
  | inl there ↦ elim (cases_lt place ticks) [
    | inl lt ↦ rw (placed_in d items ticks place input there lt)
        (frames_in d items ticks input (d.base + place))
    | inr past ↦ rw (past_ticks d items ticks place input there past) tt
  ]
  | inr past ↦ rw (past_inputs (table_of d items ticks) place input
      (rw (table_long d items ticks) past)) tt
]

-- the table of a capture
pub table_is : (d : DeviceParts) (items : List Item) (ticks : ℕ)
    → IsTable d (table_of d items ticks)
table_is d items ticks =
    record {
      long = table_long d items ticks;
      whole = λ place input. whole_at d items ticks place input;
    }

-- it has the blocks of each claim's tick
pub table_has : (s : SetupParts) (items : List Item) (ticks k : ℕ) → 1 ≤ length s.device.outputs
    → k < ticks * length s.device.outputs
    → HasTick s (table_of s.device items ticks) (blocks_in s.device items ticks) k
table_has s items ticks k some lt input =
    let n_some : 0 < length s.device.outputs = omega (arith, some) in
    let within : place_of_claim s k < ticks = (div-lt_iff_lt-mul n_some).1 lt in
    elim (cases_lt input (length s.device.inputs)) [
      | inl there ↦ placed_in s.device items ticks (place_of_claim s k) input there within
      | inr past ↦
          past_inputs (table_of s.device items ticks) (place_of_claim s k) input
          (rw (table_long s.device items ticks) past)
          ∙ sym (none_in s.device items ticks input (s.device.base + place_of_claim s k)
          (slice_get s.device.inputs input) refl (slice_get_past s.device.inputs input past))
    ]

-- ---- the blocks of one input

-- the end changes no block
end_by : (o : Option Intake) (arrivals : List Arrival) (tick : ℕ)
    → option_and_then (λ n. block_at n arrivals tick) o ≡ option_and_then
    (λ n. block_at n (arrivals ++ End ∷ []) tick) o
end_by None arrivals tick = refl
end_by (Some n) arrivals tick = sym (block_mark n arrivals End (n.ticks + n.hold) tick refl)

came : {P : Type 0} (bytes : P → List ℕ) (packets : List P)
    → map (λ p. Packet (bytes p)) packets ≡ map Packet (map bytes packets)
came bytes [] = refl
came bytes (p ∷ packets) = ap (λ (all : List Arrival). Packet (bytes p) ∷ all) (came bytes packets)

-- the blocks of an input's packets
pub session_is : {P : Type 0} (bytes : P → List ℕ) (d : DeviceParts) (items : List Item)
    (ticks input : ℕ) (packets : List P) → map bytes packets ≡ packets_of input items
    → session_blocks d input ticks (map (λ p. Packet (bytes p)) packets)
    ≡ input_blocks d items ticks input
session_is bytes d items ticks input packets is =
    let arrivals : map (λ p. Packet (bytes p)) packets ≡ map Packet (packets_of input items) =
    came bytes packets ∙ ap (map Packet) is in
    map_same_below (λ k. block_of d input ticks (map (λ p. Packet (bytes p)) packets) (d.base + k))
    (λ k. blocks_in d items ticks input (d.base + k)) ticks
    (λ k lt. ap (λ (all : List Arrival). block_of d input ticks all (d.base + k)) arrivals
    ∙ end_by (intake_of d input ticks) (map Packet (packets_of input items)) (d.base + k))

-- one packet more, or none
pub packets_more : (input : ℕ) (items : List Item) (i : ℕ) (item : Item) (o : Option (List ℕ))
    (made : List (List ℕ)) → i < length items → item ≡ get_or items i item
    → packet_at input item ≡ o → made ≡ packets_of input (take i items)
    → made ++ cons_option o [] ≡ packets_of input (take (i + 1) items)
packets_more input items i item o made lt is at so_far =
    ap (λ (z : List (List ℕ)). z ++ cons_option o []) so_far
    ∙ ap (λ (p : Option (List ℕ)). packets_of input (take i items) ++ cons_option p []) (sym at)
    ∙ sym (ap (packets_of input) (take_more items i item lt
    ∙ ap (λ (y : Item). take i items ++ y ∷ []) (sym is))
    ∙ filter_map-append (packet_at input) (take i items) (item ∷ []))

-- a packet that is put after the others
pub packet_pushed : {P : Type 0} (bytes : P → List ℕ) (made : List P) (p : P) (input : ℕ)
    (items : List Item) (i : ℕ) (item : Item) → i < length items → item ≡ get_or items i item
    → packet_at input item ≡ Some (bytes p)
    → map bytes made ≡ packets_of input (take i items)
    → map bytes (made ++ p ∷ []) ≡ packets_of input (take (i + 1) items)
packet_pushed bytes made p input items i item lt is at so_far =
    map-append bytes made (p ∷ [])
    ∙ packets_more input items i item (Some (bytes p)) (map bytes made) lt is at so_far

-- a record that is no packet of the input
pub packet_passed : {P : Type 0} (bytes : P → List ℕ) (made : List P) (input : ℕ)
    (items : List Item) (i : ℕ) (item : Item) → i < length items → item ≡ get_or items i item
    → packet_at input item ≡ None
    → map bytes made ≡ packets_of input (take i items)
    → map bytes made ≡ packets_of input (take (i + 1) items)
packet_passed bytes made input items i item lt is at so_far =
    sym (append-nil (map bytes made))
    ∙ packets_more input items i item None (map bytes made) lt is at so_far
