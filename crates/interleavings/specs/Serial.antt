-- The history of claims and requests that are made one after another. (This project's own.)
use Rattle.std.specs.Prelude.{ℕ, List, map}
use Rattle.std.specs.List.{range_with_len}
use Rattle.map_entry.specs.Setup.{SetupParts}
use Rattle.packet_writer.specs.Flags.{closed_flags}
use Rattle.packet_writer.specs.Packet.{Blocks}
use Rattle.book_words.specs.declared.calls.JournalCall.{JournalCall}
use Rattle.book_words.specs.declared.history.ClaimItem.{ClaimItem}
use Rattle.book_words.specs.declared.history.History.{History}
use Rattle.book_words.specs.declared.history.ReplyItem.{ReplyItem}
use Rattle.book_words.specs.History.{history_of, in_order}
use Rattle.plain_book.specs.Journal.{entries_of}
use Rattle.interleavings.specs.Run.{claim_with}

-- the claims made, the calls accepted and the replies given so far
pub record SerialParts : Type 0 where
  pub claims : ℕ
  pub journal : List JournalCall
  pub given : List ReplyItem

-- a given number of claims, these calls, and these replies as they were given
abbrev pub serial_parts : ℕ → List JournalCall → List ReplyItem → SerialParts
serial_parts claims journal given = record { claims = claims; journal = journal; given = given }

-- claim k with its flags in closed form over all blocks
abbrev pub closed_claim : SetupParts → List JournalCall → Blocks → ℕ → ClaimItem
closed_claim s journal blocks k =
    claim_with s journal blocks k (closed_flags s (entries_of s journal) blocks k)

-- the history of these: each claim by the whole journal and over all blocks, and the replies in
-- order
abbrev pub closed_history : SetupParts → Blocks → ℕ → List JournalCall → List ReplyItem → History
closed_history s blocks claims journal given =
    history_of (map (closed_claim s journal blocks) (range_with_len 0 claims)) journal
    (in_order given)
