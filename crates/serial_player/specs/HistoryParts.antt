-- What the history of a capture is made of, once all its records were done. (This project's own.)
use Rattle.std.specs.Prelude.{◌≡◌, ℕ, List, map, All, length}
use Rattle.std.specs.List.{range_with_len}
use Rattle.map_entry.specs.Setup.{SetupParts}
use Rattle.capture_file.specs.Capture.{CaptureParts, capture_of, opening_of}
use Rattle.capture_file.specs.Items.{item}
use Rattle.capture_file.specs.Formats.{AllowsGrain}
use Rattle.capture_file.specs.Result.{FitsHistory}
use Rattle.capture_file.specs.declared.format.Format.{Format}
use Rattle.capture_file.specs.declared.items.Item.{Item}
use Rattle.book_words.specs.declared.history.History.{History}
use Rattle.book_words.specs.History.{history_of}
use Rattle.plain_book.specs.Journal.{entries_of}
use Rattle.interleavings.specs.Serial.{closed_claim}
use Rattle.serial_player.specs.Legal.{IsSerial}
use Rattle.serial_player.specs.OutputEntries.{HaveEntries}
use Rattle.serial_player.specs.Serial.{blocks_of, packets_in}
use Rattle.serial_player.specs.Table.{table_of}
use Rattle.serial_player.specs.declared.player.HistoryParts.{HistoryParts}

-- A capture of this format, setup, records and ticks. Where its records begin makes no difference
-- to what they do.
abbrev pub capture_by : Format → SetupParts → List Item → ℕ → CaptureParts
capture_by format setup items ticks = capture_of (opening_of format setup 0) items ticks

-- the history that is made of its parts: each claim by all calls and over the blocks of all packets
abbrev pub history_by_parts : CaptureParts → HistoryParts → History
history_by_parts c p =
    history_of
    (map (closed_claim c.setup p.journal (blocks_of c)) (range_with_len 0 (packets_in c)))
    p.journal p.replies

-- These are the parts of a capture's history: the history made of them is its serial one, and it
-- fits the fields of each format that can say the grain, where the records fit theirs. The table
-- has the blocks of all packets, and the entries are those of all calls, by output.
pub record AreHistoryParts (c : CaptureParts) (p : HistoryParts) : Type 0 where
  pub serial : IsSerial c (history_by_parts c p)
  pub fits : All item.Fits c.items → (format : Format) → AllowsGrain format c.setup.grain
      → FitsHistory format c.setup.device (history_by_parts c p)
  pub table : p.table ≡ table_of c.setup.device c.items c.ticks
  pub claims : p.claims ≡ packets_in c
  pub entries : HaveEntries (length c.setup.device.outputs) (entries_of c.setup p.journal) p.entries
