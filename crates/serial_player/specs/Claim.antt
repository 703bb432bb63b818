-- Claims by a list of entries. (This project's own.)
use Rattle.std.specs.Prelude.{ℕ, List}
use Rattle.map_entry.specs.Setup.{SetupParts}
use Rattle.map_entry.specs.declared.entry.Entry.{Entry}
use Rattle.packet_writer.specs.Flags.{closed_flags}
use Rattle.packet_writer.specs.Packet.{Blocks, FitOutput, claim_rows, output_of_claim, packet_by}
use Rattle.book_words.specs.declared.history.ClaimItem.{ClaimItem}
use Rattle.book_words.specs.History.{claim_item}

-- the rows that entries select for the frames of claim k fit its output
abbrev pub FitsOutput : SetupParts → List Entry → ℕ → Type 0
FitsOutput s entries k = FitOutput s.device (output_of_claim s k) (claim_rows s entries k)

-- claim k by a list of entries, which found each block that its rows name and that is there
abbrev pub claim_by : SetupParts → List Entry → Blocks → ℕ → ClaimItem
claim_by s entries blocks k =
    let flags = closed_flags s entries blocks k in
    claim_item k flags (packet_by s entries blocks flags k)
