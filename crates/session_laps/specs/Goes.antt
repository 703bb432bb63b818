-- How a session goes on with one lap more, and with its part of a history. (This project's own.)
use Rattle.std.specs.Prelude.{◌≡◌, ℕ, ◌+◌, List, [], ◌∷◌, ◌++◌}
use Rattle.map_entry.specs.Setup.{SetupParts}
use Rattle.packet_writer.specs.Packet.{Blocks}
use Rattle.book_words.specs.declared.calls.JournalCall.{JournalCall}
use Rattle.book_words.specs.declared.given.Given.{Given}
use Rattle.book_words.specs.declared.history.ClaimItem.{ClaimItem}
use Rattle.book_words.specs.declared.history.History.{History}
use Rattle.plain_book.specs.Given.{AreGiven}
use Rattle.session_laws.specs.Facts.{AreLaps, Gathering, IsLap, Lap, first_claim, given_in_laps}
use Rattle.session_laws.specs.Facts.{items_in_laps, items_of}
use Rattle.session_laws.specs.Steps.{IsHistoryPart}

-- the laps so far, which lead from no claim and no call to these; what was answered in them, and
-- their claims
pub record HasLaps (s : SetupParts) (g : Gathering) (blocks : Blocks) (laps : List Lap)
    (claims : ℕ) (journal : List JournalCall) (given : List Given) (items : List ClaimItem)
    : Type 0 where
  pub are : AreLaps s g blocks 0 [] laps claims journal
  pub given_is : given_in_laps laps ≡ given
  pub items_are : items_in_laps laps ≡ items

-- the parts of a history so far, one of each lap
abbrev pub ArePartsSo : List JournalCall → List Lap → List History → Type 0
ArePartsSo journal [] [] = Unit {0}
ArePartsSo journal [] (part ∷ parts) = ⊥
ArePartsSo journal (l ∷ ls) [] = ⊥
ArePartsSo journal (l ∷ ls) (part ∷ parts) =
    IsHistoryPart journal l.journal (items_of l.workers) l.given part
    × ArePartsSo l.journal ls parts
