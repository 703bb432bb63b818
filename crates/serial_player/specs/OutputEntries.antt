-- Map entries by output. (This project's own.)
use Rattle.std.specs.Prelude.{◌≡◌, ℕ, ◌<◌, Bool, eqb, List, [], length, slice_index_or}
use Rattle.std.specs.List.{filter}
use Rattle.map_entry.specs.Setup.{SetupParts}
use Rattle.map_entry.specs.declared.entry.Entry.{Entry}
use Rattle.packet_writer.specs.Packet.{claim_rows}

-- whether an entry is one of an output
abbrev pub is_of : ℕ → Entry → Bool
is_of output entry = eqb entry.output output

-- There is a list for each of a given number of outputs, and it has the output's entries, in order.
pub record HaveEntries (outputs : ℕ) (entries : List Entry) (lists : List (List Entry)) : Type 0
  where
    pub long : length lists ≡ outputs
    pub each : (output : ℕ) → output < length lists
        → slice_index_or lists output [] ≡ filter (is_of output) entries

-- two lists of entries give the packet of claim k the same rows
abbrev pub RulesAlike : SetupParts → List Entry → List Entry → ℕ → Type 0
RulesAlike s own entries k = (frame : ℕ) → claim_rows s own k frame ≡ claim_rows s entries k frame
