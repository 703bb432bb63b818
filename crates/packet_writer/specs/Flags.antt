-- Which input blocks a packet found. (This project's own.)
use Rattle.std.specs.Prelude.{◌≡◌, ℕ, ◌<◌, ◌&&◌, Bool, true, List, length, map, is_some}
use Rattle.std.specs.List.{list_any, range_with_len}
use Rattle.map_entry.specs.declared.cell.Cell.{Cell}
use Rattle.map_entry.specs.declared.entry.Entry.{Entry}
use Rattle.map_entry.specs.Row.{names}
use Rattle.map_entry.specs.Setup.{SetupParts}
use Rattle.packet_writer.specs.Heard.{RowsByFrame, TickBlocks}
use Rattle.packet_writer.specs.Packet.{Blocks, claim_rows, flag_of, found_block, tick_of_claim}

-- ---- which inputs a packet names

-- a row names an input
abbrev pub row_names : ℕ → List Cell → Bool
row_names input row = list_any (names input) row

-- the row of one of a given number of frames names an input
abbrev pub is_named : ℕ → RowsByFrame → ℕ → Bool
is_named frames rows input =
    list_any (λ frame. row_names input (rows frame)) (range_with_len 0 frames)

-- the packet of claim k, by these entries, names an input
abbrev pub names_by : SetupParts → List Entry → ℕ → ℕ → Bool
names_by s entries k input = is_named s.device.rate.frames (claim_rows s entries k) input

-- These are the blocks of its tick that the packet of claim k finds, of the inputs that it names.
abbrev pub IsFound : SetupParts → List Entry → ℕ → TickBlocks → Blocks → List Bool → Type 0
IsFound s entries k found blocks flags =
    (input : ℕ) → names_by s entries k input ≡ true
    → found input ≡ found_block blocks flags (tick_of_claim s k) input

-- ---- flags of claims, one for each input

-- an input's block of a claim's tick is there
abbrev pub is_there : SetupParts → Blocks → ℕ → ℕ → Bool
is_there s blocks k input = is_some (blocks input (tick_of_claim s k))

-- the flags of claim k in closed form: set just where the packet names the input and its block is
-- there
abbrev pub closed_flags : SetupParts → List Entry → Blocks → ℕ → List Bool
closed_flags s entries blocks k =
    map (λ input. names_by s entries k input && is_there s blocks k input)
    (range_with_len 0 (length s.device.inputs))

-- flags in closed form
pub record AreClosed (s : SetupParts) (entries : List Entry) (blocks : Blocks) (k : ℕ)
    (found : List Bool) : Type 0 where
  pub long : length found ≡ length s.device.inputs
  pub each : (input : ℕ) → input < length s.device.inputs
      → flag_of found input ≡ (names_by s entries k input && is_there s blocks k input)

-- what was seen of the blocks, by claim and input
abbrev pub Sights : Type 0
Sights = ℕ → ℕ → Bool

-- A flag in free form, by whether the packet names the input, its block is there, and it was seen:
-- set only where the first two hold, and wherever a named block was seen. What was seen is there,
-- so the latter does not ask whether it is.
pub record IsFreeFlag (named there seen flag : Bool) : Type 0 where
  pub only : flag ≡ true → (named ≡ true) × (there ≡ true)
  pub wherever : named ≡ true → seen ≡ true → flag ≡ true

-- flags in free form
pub record AreFree (s : SetupParts) (seen : Sights) (entries : List Entry) (blocks : Blocks)
    (k : ℕ) (found : List Bool) : Type 0 where
  pub long : length found ≡ length s.device.inputs
  pub each : (input : ℕ) → input < length s.device.inputs
      → IsFreeFlag (names_by s entries k input) (is_there s blocks k input) (seen k input)
      (flag_of found input)
