-- A lap in the words for sessions on running tables. (This project's own.)
use Rattle.std.specs.Prelude.{◌≡◌, ℕ, ◌+◌, ◌*◌, min, List, [], ◌∷◌, ◌++◌, length, take}
use Rattle.map_entry.specs.Setup.{SetupParts}
use Rattle.claim_word.specs.Endings.{draws_in}
use Rattle.input_cells.specs.Agreement.{blocks_set}
use Rattle.session_laws.specs.Facts.{Gathering, IsFed, IsLap, Made}
use Rattle.session_laws.specs.Facts.{Lap as ToldLap}
use Rattle.packet_writer.specs.Packet.{Blocks}
use Rattle.packet_worker.specs.Faces.{WorkerFace}
use Rattle.packet_worker.specs.Jobs.{IsAllMade}
use Rattle.packet_worker.specs.Told.{made_by}
use Rattle.book_words.specs.declared.calls.JournalCall.{JournalCall}
use Rattle.book_words.specs.declared.history.ClaimItem.{ClaimItem}
use Rattle.plain_book.specs.Given.{AreGiven}
use Rattle.session_laps.specs.declared.lap.Lap.{Lap}
use Rattle.session_laps.specs.Laps.{passes_in}

-- what workers made, with the claims of each
abbrev pub made_all : List WorkerFace → List (List ClaimItem) → List Made
made_all [] items = []
made_all (w ∷ ws) [] = made_by w [] ∷ made_all ws []
made_all (w ∷ ws) (own ∷ items) = made_by w own ∷ made_all ws items

-- each worker's packets have their claims
abbrev pub AreAllMade : Gathering → List WorkerFace → List (List ClaimItem) → Type 0
AreAllMade g [] items = Unit {0}
AreAllMade g (w ∷ ws) [] = IsAllMade g w [] × AreAllMade g ws []
AreAllMade g (w ∷ ws) (own ∷ items) = IsAllMade g w own × AreAllMade g ws items

-- how many of a lap's packets were claimed
abbrev pub made_in : Lap → ℕ
made_in lap = min (length (draws_in (passes_in lap.workers))) lap.table.plan.packets

-- a lap after a number of ticks, with the claims of its workers
abbrev pub lap_told : ℕ → Lap → List (List ClaimItem) → ToldLap
lap_told before lap items =
    record {
      before = before;
      ticks = lap.ticks;
      made = made_in lap;
      given = lap.book.given;
      journal = lap.book.journal;
      workers = made_all lap.workers items;
    }

-- It is a lap of a session, and its answers lead from the calls before it to those at its end: they
-- are the one-thread book's, one after the other, at claims of the lap.
pub record IsToldLap (s : SetupParts) (g : Gathering) (blocks : Blocks) (before : ℕ) (lap : Lap)
    (items : List (List ClaimItem)) : Type 0 where
  pub is_lap : IsLap s g blocks (lap_told before lap items)
  pub given : (start : List JournalCall) → length start ≡ lap.book.begun
      → (calls : List JournalCall) → lap.book.journal ≡ start ++ calls
      → AreGiven s start (before * length s.device.outputs) lap.book.given lap.book.journal
      (before * length s.device.outputs + made_in lap)
