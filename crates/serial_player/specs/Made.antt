-- Claims before they are made, and what is made of them. (This project's own.)
use Rattle.std.specs.Prelude.{ℕ, ◌<◌, List, [], ◌≤◌, Bool, map, ◌≡◌, length, slice_index_or}
use Rattle.std.specs.List.{range_with_len}
use Rattle.map_entry.specs.declared.entry.Entry.{Entry}
use Rattle.packet_writer.specs.Packet.{Blocks, packet_by, output_of_claim, packet_length}
use Rattle.packet_writer.specs.Flags.{AreClosed}
use Rattle.book_words.specs.declared.history.ClaimItem.{ClaimItem}
use Rattle.book_words.specs.History.{claim_item}
use Rattle.serial_player.specs.Claim.{FitsOutput, claim_by}
use Rattle.serial_player.specs.OutputEntries.{HaveEntries, RulesAlike}
use Rattle.serial_player.specs.Table.{HasTick, IsTable}
use Rattle.serial_player.specs.declared.claims.AllClaims.{AllClaims}
use Rattle.serial_player.specs.declared.claims.OneClaim.{OneClaim}
use Rattle.io_caps.specs.Device.{IsDevice}
use Rattle.io_caps.specs.declared.limits.TheConstants.{TICKS_PAST_BASE}
use Rattle.capture_file.specs.Parts.{claim_bytes}

-- ---- one claim

-- a claim can be made: the rows of its frames and the table fit the device
pub record IsReady (c : OneClaim) : Type 0 where
  pub claim : c.k < TICKS_PAST_BASE
  pub device : IsDevice c.setup.now.device
  pub rows : FitsOutput c.setup.now c.entries.now c.k
  pub table : IsTable c.setup.now.device c.table.now

-- a claim's entries give it the rows that these give it, and these are the blocks of its tick
abbrev pub IsBy : OneClaim → List Entry → Blocks → Type 0
IsBy c entries blocks =
    RulesAlike c.setup.now c.entries.now entries c.k × HasTick c.setup.now c.table.now blocks c.k

-- a claim by a list of entries and over blocks
abbrev pub made_by : OneClaim → List Entry → Blocks → ClaimItem
made_by c entries blocks = claim_by c.setup.now entries blocks c.k

-- how many bytes a claim's packet has
abbrev pub packet_length_of : OneClaim → ℕ
packet_length_of c = packet_length c.setup.now.device (output_of_claim c.setup.now c.k)

-- These are a claim's flags, whatever list of entries and blocks it is by: those of the blocks that
-- its packet finds.
abbrev pub AreFlagsOf : OneClaim → List Bool → Type 0
AreFlagsOf c found =
    (entries : List Entry) (blocks : Blocks) → IsBy c entries blocks
    → AreClosed c.setup.now entries blocks c.k found

-- a claim with given flags, and the packet of the blocks of which they are set
abbrev pub given_by : OneClaim → List Entry → Blocks → List Bool → ClaimItem
given_by c entries blocks found =
    claim_item c.k found (packet_by c.setup.now entries blocks found c.k)

-- These bytes are the packet of a claim with given flags, whatever list of entries and blocks it is
-- by.
abbrev pub IsPacketOf : OneClaim → List Bool → List ℕ → Type 0
IsPacketOf c found packet =
    (entries : List Entry) (blocks : Blocks) → IsBy c entries blocks
    → packet ≡ packet_by c.setup.now entries blocks found c.k

-- This item is the claim, whatever list of entries and blocks it is by.
abbrev pub IsClaimOf : OneClaim → ClaimItem → Type 0
IsClaimOf c made =
    (entries : List Entry) (blocks : Blocks) → IsBy c entries blocks
    → made ≡ made_by c entries blocks

-- These bytes are the record of a claim with given flags, whatever list of entries and blocks it is
-- by.
abbrev pub IsRecordOf : OneClaim → List Bool → List ℕ → Type 0
IsRecordOf c found bytes =
    (entries : List Entry) (blocks : Blocks) → IsBy c entries blocks
    → bytes ≡ claim_bytes (given_by c entries blocks found)

-- ---- the first claims

-- the entries of the output of claim k
abbrev pub own_entries : AllClaims → ℕ → List Entry
own_entries c k = slice_index_or c.entries.now (output_of_claim c.setup.now k) []

-- the first claims can be made: the rows of their frames and the table fit the device
pub record AreReady (c : AllClaims) : Type 0 where
  pub claims : c.count ≤ TICKS_PAST_BASE
  pub device : IsDevice c.setup.now.device
  pub outputs : length c.entries.now ≡ length c.setup.now.device.outputs
  pub rows : (k : ℕ) → k < c.count → FitsOutput c.setup.now (own_entries c k) k
  pub table : IsTable c.setup.now.device c.table.now

-- the first claims have the entries of each output among these, and these are the blocks of their
-- ticks
abbrev pub AreBy : AllClaims → List Entry → Blocks → Type 0
AreBy c entries blocks =
    HaveEntries (length c.setup.now.device.outputs) entries c.entries.now
    × ((k : ℕ) → k < c.count → HasTick c.setup.now c.table.now blocks k)

-- each of the first claims by a list of entries and over blocks
abbrev pub all_made_by : AllClaims → List Entry → Blocks → ℕ → ClaimItem
all_made_by c entries blocks = claim_by c.setup.now entries blocks

-- these are the first claims, whatever list of entries and blocks they are by
abbrev pub AreClaimsOf : AllClaims → List ClaimItem → Type 0
AreClaimsOf c made =
    (entries : List Entry) (blocks : Blocks) → AreBy c entries blocks
    → made ≡ map (all_made_by c entries blocks) (range_with_len 0 c.count)

-- This is claim k of the first claims: it can be made, it is by what they all are by, and it is the
-- one of its number.
pub record IsOneOf (all : AllClaims) (k : ℕ) (c : OneClaim) : Type 0 where
  pub ready : IsReady c
  pub setup : c.setup.now ≡ all.setup.now
  pub by : (entries : List Entry) (blocks : Blocks) → AreBy all entries blocks
      → IsBy c entries blocks
  pub made : (entries : List Entry) (blocks : Blocks)
      → made_by c entries blocks ≡ all_made_by all entries blocks k
