-- How the result of a capture is given to a sink. (This project's own.)
use Rattle.std.specs.Prelude.{◌≡◌, ℕ, ◌+◌, List, [], ◌++◌, length, map, slice_index_or, Option}
use Rattle.std.specs.Prelude.{Bool, ◌<◌}
use Rattle.std.specs.Io.KnownBytes.{Appends}
use Rattle.std.specs.List.{flat_map, range_with_len}
use Rattle.chan_io.specs.Outgoing.{waiting_bytes}
use Rattle.chan_io.specs.Streams.{TakesPrefix, TellsAlike, SendsOn, TakesOn}
use Rattle.chan_io.specs.declared.outgoing.Outgoing.{Outgoing}
use Rattle.capture_file.specs.Capture.{CaptureParts}
use Rattle.capture_file.specs.Items.{end_text}
use Rattle.capture_file.specs.Parts.{between_bytes, claim_bytes}
use Rattle.capture_file.specs.Records.{ShowsAll}
use Rattle.capture_file.specs.Formats.{result_magic}
use Rattle.capture_file.specs.Result.{FitsHistory, result_text}
use Rattle.capture_file.specs.declared.format.Format.{Format}
use Rattle.book_words.specs.declared.history.ClaimItem.{ClaimItem}
use Rattle.book_words.specs.declared.history.History.{History}
use Rattle.serial_player.specs.Legal.{IsSerial, KeepsBegunTicks}
use Rattle.serial_player.specs.HistoryParts.{AreHistoryParts, history_by_parts}
use Rattle.serial_player.specs.Serial.{packets_in}
use Rattle.serial_player.specs.declared.writing.Prepared.{Prepared}
use Rattle.serial_player.specs.declared.writing.TheConstants.{BUFFER_LEN}
use Rattle.serial_player.specs.declared.claims.AllClaims.{AllClaims}
use Rattle.serial_player.specs.Made.{AreBy, AreReady, IsBy, all_made_by, made_by}
use Rattle.serial_player.specs.declared.claims.OneClaim.{OneClaim}
use Rattle.packet_writer.specs.Packet.{Blocks}
use Rattle.map_entry.specs.declared.entry.Entry.{Entry}

-- ---- the text

-- the record of claim k, after what stands between it and the claim before it
abbrev pub record_behind : List (List ℕ) → (ℕ → ClaimItem) → ℕ → List ℕ
record_behind between claim_of k = slice_index_or between k [] ++ claim_bytes (claim_of k)

-- the magic of a format, a given number of claims, what follows the last one, and the last record
abbrev pub text_by : Format → List (List ℕ) → (ℕ → ClaimItem) → ℕ → List ℕ
text_by format between claim_of claims =
    result_magic format
    ++ (flat_map (record_behind between claim_of) (range_with_len 0 claims)
    ++ (slice_index_or between claims [] ++ end_text))

-- ---- on its way to a sink, whatever list of entries and blocks the claims are by

-- a claim's record goes on to a sink, whatever list of entries and blocks the claim is by
abbrev pub SendsClaim : OneClaim → Option (List ℕ) → List ℕ → Option (List ℕ) → List ℕ → Type 0
SendsClaim c old old_waiting new new_waiting =
    (entries : List Entry) (blocks : Blocks) → IsBy c entries blocks
    → SendsOn old old_waiting new new_waiting (claim_bytes (made_by c entries blocks))

-- the records of the first claims, each after what stands between it and the claim before it
abbrev pub records_of_all : AllClaims → List (List ℕ) → List Entry → Blocks → List ℕ
records_of_all c between entries blocks =
    flat_map (record_behind between (all_made_by c entries blocks))
    (range_with_len 0 c.count)

-- the records of the first claims go on to a sink, with what stands between them
abbrev pub SendsClaims : AllClaims → List (List ℕ) → Option (List ℕ) → List ℕ → Option (List ℕ)
    → List ℕ → Type 0
SendsClaims c between old old_waiting new new_waiting =
    (entries : List Entry) (blocks : Blocks) → AreBy c entries blocks
    → SendsOn old old_waiting new new_waiting (records_of_all c between entries blocks)

-- a sink took a front of what was given out before and of the records of the first claims
abbrev pub TakesClaims : AllClaims → List (List ℕ) → Option (List ℕ) → List ℕ → Option (List ℕ)
    → Type 0
TakesClaims c between old old_waiting new =
    (entries : List Entry) (blocks : Blocks) → AreBy c entries blocks
    → TakesOn old old_waiting new (records_of_all c between entries blocks)

-- a sink took the whole text of a result, whatever list of entries and blocks its claims are by
abbrev pub TakesText : Format → AllClaims → List (List ℕ) → Option (List ℕ) → Option (List ℕ)
    → Type 0
TakesText format c between old new =
    (entries : List Entry) (blocks : Blocks) → AreBy c entries blocks
    → TellsAlike old new
    × Appends old new (text_by format between (all_made_by c entries blocks) c.count)

-- a sink took a front of the text of a result
abbrev pub TakesTextInPart : Format → AllClaims → List (List ℕ) → Option (List ℕ)
    → Option (List ℕ) → Type 0
TakesTextInPart format c between old new =
    (entries : List Entry) (blocks : Blocks) → AreBy c entries blocks
    → TakesPrefix old new (text_by format between (all_made_by c entries blocks) c.count)

-- The first claims can be given to a sink: they can be made, there is what stands between them and
-- after the last one, a flag for each input, and a buffer of `BUFFER_LEN` bytes.
pub record CanBePut (c : AllClaims) (between : List (List ℕ)) (found : List Bool) (out : Outgoing)
    : Type 0 where
  pub ready : AreReady c
  pub between_all : c.count < length between
  pub flags : length found ≡ length c.setup.now.device.inputs
  pub size : length out.buffer.items ≡ BUFFER_LEN

-- ---- what it is written from

-- The parts of a capture's history, which fits its fields; what stands between its claims; a flag
-- for each input, and a buffer of `BUFFER_LEN` bytes in which nothing waits.
pub record IsPrepared (c : CaptureParts) (p : Prepared) : Type 0 where
  pub parts_are : AreHistoryParts c p.parts
  pub fits : FitsHistory c.format c.setup.device (history_by_parts c p.parts)
  pub between : p.between
      ≡ map (λ number. between_bytes c.format number p.parts.journal p.parts.replies)
      (range_with_len 0 (packets_in c + 1))
  pub found : length p.found.items ≡ length c.setup.device.inputs
  pub waiting : waiting_bytes p.out ≡ []
  pub size : length p.out.buffer.items ≡ BUFFER_LEN

-- ---- what a sink took

-- This text is the result of a capture, in its format: that of its serial history, of which
-- nothing is left out, and each part of which is what some record of a result is read as. The history is legal, and in
-- it no activation changes a tick that has begun.
pub record IsResultOf (c : CaptureParts) (text : List ℕ) : Type 0 where
  pub history : History
  pub serial : IsSerial c history
  pub begun : KeepsBegunTicks c history
  pub fits : FitsHistory c.format c.setup.device history
  pub shows : ShowsAll history
  pub written : text ≡ result_text c.format c.setup.device history

-- a sink took the result of a capture
pub record IsWritten (c : CaptureParts) (old new : Option (List ℕ)) : Type 0 where
  pub text : List ℕ
  pub result : IsResultOf c text
  pub alike : TellsAlike old new
  pub took : Appends old new text

-- a sink took a front of the result of a capture, maybe none or all of it
pub record IsWrittenInPart (c : CaptureParts) (old new : Option (List ℕ)) : Type 0 where
  pub text : List ℕ
  pub result : IsResultOf c text
  pub took : TakesPrefix old new text
