-- What a run over the book has made so far. (This project's own.)
use Rattle.std.specs.Prelude.{◌≡◌, ℕ, ◌+◌, ◌^◌, ◌<◌, ◌≤◌, length, slice_index_or}
use Rattle.std.specs.List.{AllByRecursion}
use Rattle.io_caps.specs.declared.limits.TheConstants.{CLIENTS, TICKS_PAST_BASE}
use Rattle.map_entry.specs.Setup.{IsSetup, SetupParts}
use Rattle.plain_book.specs.Legal.{IsLegalJournal}
use Rattle.book_words.specs.declared.history.ReplyItem.{ReplyItem}
use Rattle.book_words.specs.declared.history.Said.{Said}
use Rattle.book_words.specs.declared.history.Said.TheVariants.{Plain, Http}
use Rattle.book_words.specs.declared.replies.Reply.{Reply}
use Rattle.book_words.specs.declared.requests.Request.{Request}
use Rattle.book_words.specs.declared.requests.Stamp.{Stamp}
use Rattle.plain_book.specs.Journal.{entries_of}
use Rattle.interleavings.specs.Legal.{first_floor}
use Rattle.interleavings.specs.Serial.{SerialParts, serial_parts}
use Rattle.serial_player.specs.Serial.{IsStepThere, Played, claims_by, floor_of, play_step}
use Rattle.serial_player.specs.declared.asks.ClientAsk.{ClientAsk}
use Rattle.serial_player.specs.declared.asks.Step.{Step}
use Rattle.serial_player.specs.declared.asks.Step.TheVariants.{Ask}
use Rattle.serial_player.specs.declared.floors.Floors.{Floors}
use Rattle.serial_player.specs.declared.run.Run.{Run}
use Rattle.serial_player.specs.declared.run.RunParts.{RunParts}

-- the claims made, the calls accepted, and the replies as they were given
abbrev pub parts_of : Run → SerialParts
parts_of run = serial_parts run.desk.claims run.desk.journal run.replies

-- ---- a run

-- a record of a result holds what is said: a response with the 18 bytes before it is shorter than
-- 2^32
abbrev pub IsShort : Said → Type 0
IsShort (Plain reply) = Unit {0}
IsShort (Http bytes) = length bytes + 18 < 256 ^ 4

-- the calls of a reply's place fit 8 bytes, and a response is short enough for a record
abbrev pub IsWritable : ReplyItem → Type 0
IsWritable r = (r.stamp.calls < 256 ^ 8) × IsShort r.said

-- there is a place for each client
abbrev pub AreAll : Floors → Type 0
AreAll floors = length floors.places.items ≡ CLIENTS

-- The calls are a legal journal. The calls of each reply's place fit 8 bytes, and each response a
-- record.
pub record IsRun (s : SetupParts) (run : Run) : Type 0 where
  pub own : run.setup ≡ s
  pub setup : run.desk.setup ≡ s
  pub checked : IsSetup s
  pub legal : IsLegalJournal s run.desk.claims run.desk.journal
  pub held : AllByRecursion IsWritable run.replies
  pub floors : AreAll run.floors

-- ---- clients

-- from where a client goes on, by the places that are kept
abbrev pub floor_at : Floors → ℕ → Stamp
floor_at floors client = slice_index_or floors.places.items client first_floor

-- ---- what was played

-- the run has made what was played
pub record HasPlayed (p : Played) (run : Run) : Type 0 where
  pub claims : run.desk.claims ≡ p.claims
  pub journal : run.desk.journal ≡ p.journal
  pub told : run.replies ≡ p.told
  pub floors : (client : ℕ) → client < CLIENTS
      → floor_at run.floors client ≡ floor_of client p.given

-- This run over a setup's book has played this.
pub record IsRunOf (s : SetupParts) (p : Played) (run : Run) : Type 0 where
  pub kept : IsRun s run
  pub played : HasPlayed p run

-- This is left of a run that has played this: its calls are few enough for the 8 bytes of an id.
pub record AreLeft (s : SetupParts) (p : Played) (parts : RunParts) : Type 0 where
  pub legal : IsLegalJournal s p.claims p.journal
  pub few : length p.journal < 2 ^ 63
  pub claims : parts.claims ≡ p.claims
  pub entries : parts.entries ≡ entries_of s p.journal
  pub journal : parts.journal ≡ p.journal
  pub replies : parts.replies ≡ p.told
  pub held : AllByRecursion IsWritable p.told

-- The run can take a step: its client is one, its ask has an answer, and its claims are no more
-- than the book counts.
abbrev pub CanStep : Run → Step → Type 0
CanStep run step =
    (s : SetupParts) × (p : Played) × IsRunOf s p run × IsStepThere step
    × (p.claims + claims_by step ≤ TICKS_PAST_BASE)

-- a step more was played
abbrev pub StepsOn : Run → Step → Run → Type 0
StepsOn old step new =
    (s : SetupParts) (p : Played) → IsRunOf s p old → IsRunOf s (play_step s p step) new

-- what a run was stays so
abbrev pub KeepsRun : Run → Run → Type 0
KeepsRun old new = (s : SetupParts) → IsRun s old → IsRun s new

-- what the book tells of an answer at a number of claims: its place counts these
abbrev pub counts_claims : ℕ → Request → Reply → Stamp → Type 0
counts_claims claims request reply place = place.claims ≡ claims

-- an ask of a client was answered
pub record HasAsked (client : ℕ) (ask : ClientAsk) (old new : Run) : Type 0 where
  pub run : KeepsRun old new
  pub does : (s : SetupParts) (p : Played) → IsSetup s → old.desk.setup ≡ s → HasPlayed p old
      → HasPlayed (play_step s p (Ask client ask)) new
