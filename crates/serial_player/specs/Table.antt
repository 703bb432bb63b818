-- The blocks of a capture in a table: by input, and then by tick from the first one on. (This
-- project's own.)
use Rattle.std.specs.Prelude.{◌≡◌, ℕ, ◌+◌, ◌/◌, List, [], length, map, slice_get, slice_index_or}
use Rattle.std.specs.Prelude.{Bool, if◌then◌else◌, Option, None, unwrap_or, ℤ}
use Rattle.std.specs.List.{range_with_len}
use Rattle.io_caps.specs.declared.device.DeviceParts.{DeviceParts}
use Rattle.map_entry.specs.Setup.{SetupParts}
use Rattle.capture_file.specs.declared.items.Item.{Item}
use Rattle.packet_writer.specs.Heard.{HaveFrames, TickBlocks}
use Rattle.packet_writer.specs.Packet.{Blocks, flag_of, tick_of_claim}
use Rattle.serial_player.specs.Arrivals.{blocks_in}

-- blocks by input, and then by tick
abbrev pub BlockTable : Type 0
BlockTable = List (List (Option (List ℤ)))

-- the blocks of an input, for each tick
abbrev pub input_blocks : DeviceParts → List Item → ℕ → ℕ → List (Option (List ℤ))
input_blocks d items ticks input =
    map (λ place. blocks_in d items ticks input (d.base + place)) (range_with_len 0 ticks)

-- of each input
abbrev pub table_of : DeviceParts → List Item → ℕ → BlockTable
table_of d items ticks = map (input_blocks d items ticks) (range_with_len 0 (length d.inputs))

-- the blocks of a tick at a place after the first one
abbrev pub placed : BlockTable → ℕ → TickBlocks
placed table place input = unwrap_or (slice_get (slice_index_or table input []) place) None

-- those of them of which a flag is set
abbrev pub found_placed : BlockTable → ℕ → List Bool → TickBlocks
found_placed table place found input =
    if flag_of found input then placed table place input else None

-- it has each input, and each block has all frames of a tick
pub record IsTable (d : DeviceParts) (table : BlockTable) : Type 0 where
  pub long : length table ≡ length d.inputs
  pub whole : (place : ℕ) → HaveFrames d.inputs (placed table place) d.rate.frames

-- the place of the tick of claim k
abbrev pub place_of_claim : SetupParts → ℕ → ℕ
place_of_claim s k = k / length s.device.outputs

-- it has these blocks at the tick of claim k
abbrev pub HasTick : SetupParts → BlockTable → Blocks → ℕ → Type 0
HasTick s table blocks k =
    (input : ℕ) → placed table (place_of_claim s k) input ≡ blocks input (tick_of_claim s k)
