-- A claim of a table is that of the blocks which the table has at its tick.
use Rattle.std.proofs.Common.{◌≡◌, ℕ, ◌<◌, Bool, true, false, true≢false, List, length, ℤ}
use Rattle.std.proofs.Common.{Option, Some, None, ap, ◌∙◌}
use Rattle.std.specs.Prelude.{◌&&◌, if◌then◌else◌, is_some, IfNone}
use Rattle.io_caps.specs.declared.device.DeviceParts.{DeviceParts}
use Rattle.map_entry.specs.Row.{channels_of}
use Rattle.map_entry.specs.Setup.{SetupParts}
use Rattle.map_entry.specs.declared.entry.Entry.{Entry}
use Rattle.packet_writer.specs.Flags.{AreClosed, IsFound, names_by}
use Rattle.packet_writer.specs.Heard.{HasFrames, HaveFrames, TickBlocks}
use Rattle.packet_writer.specs.Packet.{Blocks, claim_rows, flag_of, packet_by}
use Rattle.packet_writer.proofs.ClaimLaws.{closed_flags-only}
use Rattle.packet_writer.proofs.PacketLaws.{is_named-same}
use Rattle.serial_player.specs.Claim.{claim_by}
use Rattle.serial_player.specs.OutputEntries.{RulesAlike}
use Rattle.serial_player.specs.Table.{BlockTable, HasTick, IsTable, found_placed, place_of_claim}
use Rattle.serial_player.specs.Table.{placed}

-- a flag by what was marked and what a look saw
pub flag_is : (named there flag marked : Bool) → marked ≡ named → (marked ≡ true → flag ≡ there)
    → (marked ≡ false → flag ≡ false) → flag ≡ (named && there)
flag_is true there flag marked is seen other = seen is
flag_is false there flag marked is seen other = other is

-- what holds where there is none
pub when_none : {A P : Type 0} (x : Option A) → is_some x ≡ false → IfNone x P → P
when_none None none own = own
when_none (Some a) none own = absurd (true≢false none)

-- flags by the rows and the table
pub flags_closed : (s : SetupParts) (own entries : List Entry) (blocks : Blocks)
    (table : BlockTable) (k : ℕ) (found : List Bool)
    → RulesAlike s own entries k → HasTick s table blocks k → length found ≡ length s.device.inputs
    → ((i : ℕ) → i < length s.device.inputs
    → flag_of found i ≡ (names_by s own k i && is_some (placed table (place_of_claim s k) i)))
    → AreClosed s entries blocks k found
flags_closed s own entries blocks table k found same has long each = record {
  long = long;
  each = λ i there.
      each i there
      ∙ ap (λ (named : Bool). named && is_some (placed table (place_of_claim s k) i))
      (is_named-same s.device.rate.frames (claim_rows s own k) (claim_rows s entries k)
      (λ frame few. same frame) i)
      ∙ ap (λ (block : Option (List ℤ)). names_by s entries k i && is_some block) (has i);
}

-- what the packet with given flags finds of the table
pub found_of : (s : SetupParts) (entries : List Entry) (blocks : Blocks) (table : BlockTable)
    (k : ℕ) (b : TickBlocks) (found : List Bool) → HasTick s table blocks k
    → ((i : ℕ) → b i ≡ found_placed table (place_of_claim s k) found i)
    → IsFound s entries k b blocks found
found_of s entries blocks table k b found has same i named =
    same i ∙ ap (λ (o : Option (List ℤ)). if flag_of found i then o else None) (has i)

-- and its blocks have all frames
frames_of : (flag : Bool) (block : Option (List ℤ)) (channels frames : ℕ)
    → HasFrames block channels frames
    → HasFrames (if flag then block else None) channels frames
frames_of true block channels frames are = are
frames_of false block channels frames are = tt

pub found_frames : (d : DeviceParts) (table : BlockTable) (place : ℕ) (found : List Bool)
    → IsTable d table → HaveFrames d.inputs (found_placed table place found) d.rate.frames
found_frames d table place found is input =
    frames_of (flag_of found input) (placed table place input) (channels_of d.inputs input)
    d.rate.frames (is.whole place input)

-- the claim of these flags and this packet
pub claim_is : (s : SetupParts) (entries : List Entry) (blocks : Blocks) (k : ℕ) (found : List Bool)
    (packet : List ℕ)
    → AreClosed s entries blocks k found → packet ≡ packet_by s entries blocks found k
    → record { k = k; found = found; packet = packet } ≡ claim_by s entries blocks k
claim_is s entries blocks k found packet are is =
    ap (λ (p : List ℕ). record { k = k; found = found; packet = p }) is
    ∙ ap (λ (f : List Bool). record { k = k; found = f; packet = packet_by s entries blocks f k })
    (closed_flags-only s entries blocks k found are)
