-- What a run of the program does. (This project's own.)
use Rattle.std.specs.Prelude.{◌≡◌, ℕ, ◌+◌, ◌<◌, ◌≤◌, ◌⊎◌, List, [], ◌∷◌, length, Contains}
use Rattle.std.specs.Prelude.{Option, Some, None}
use Rattle.std.specs.Io.KnownBytes.{Appends}
use Rattle.chan_io.specs.Streams.{BoundedRead, LongRead, TakesPrefix, TellsAlike, WholeRead}
use Rattle.capture_file.specs.declared.fault.CaptureFault.{CaptureFault}
use Rattle.capture_file.specs.declared.fault.CaptureKind.{CaptureKind}
use Rattle.chanmap.specs.World.{World, LineFailed, ReadFailed, WriteFailed}
use Rattle.chanmap.specs.End.{IsToldEnd}
use Rattle.chanmap.specs.commands.Serial.{IsSerialAnswer, IsSerialFault, IsSerialInput, SerialRest}
use Rattle.chanmap.specs.commands.Sdp.{IsSdpAnswer, IsSdpInput, IsSdpInputFault, SdpRest}
use Rattle.chanmap.specs.commands.FromSdp.{FromSdpRest, IsFromSdpAnswer, IsFromSdpInput}
use Rattle.chanmap.specs.commands.FromSdp.{IsFromSdpRefusal}
use Rattle.chanmap.specs.declared.input.TheConstants.{MOST_BYTES}
use Rattle.chanmap.specs.declared.command.Command.{Command}
use Rattle.chanmap.specs.declared.command.Command.TheVariants.{Serial, Sdp, FromSdp}
use Rattle.chanmap.specs.declared.end.SdpRefusal.{SdpRefusal}
use Rattle.chanmap.specs.declared.end.End.{End}
use Rattle.chanmap.specs.declared.end.End.TheVariants.{Usage, ReadFault, WriteFault, Refused}
use Rattle.chanmap.specs.declared.end.End.TheVariants.{TooLong, SdpRefused, NoMemory}

-- ---- the commands, a line each

-- the statuses that a command ends with
abbrev pub statuses_of : Command → List ℕ
statuses_of Serial = 0 ∷ 3 ∷ 4 ∷ 5 ∷ 7 ∷ 12 ∷ []
statuses_of Sdp = 0 ∷ 3 ∷ 4 ∷ 5 ∷ 7 ∷ 12 ∷ []
statuses_of (FromSdp frames) = 0 ∷ 3 ∷ 4 ∷ 7 ∷ 10 ∷ 12 ∷ []

-- how a command came by these bytes: it read its source to the end
abbrev pub HasRead : Command → World → World → List ℕ → Type 0
HasRead Serial before after bytes = WholeRead before.left after.left MOST_BYTES bytes
HasRead Sdp before after bytes = WholeRead before.left after.left MOST_BYTES bytes
HasRead (FromSdp frames) before after bytes = WholeRead before.left after.left MOST_BYTES bytes

-- these bytes, of which the outside tells, are what a command will read
abbrev pub Holds : Command → World → List ℕ → Type 0
Holds Serial before bytes = before.left ≡ Some bytes
Holds Sdp before bytes = before.left ≡ Some bytes
Holds (FromSdp frames) before bytes = before.left ≡ Some bytes

-- the bytes are an input of a command
abbrev pub IsInput : Command → List ℕ → Type 0
IsInput Serial bytes = IsSerialInput bytes
IsInput Sdp bytes = IsSdpInput bytes
IsInput (FromSdp frames) bytes = IsFromSdpInput frames bytes

-- the first fault of bytes that are none: its place and its kind
abbrev pub IsFaultAt : Command → List ℕ → ℕ → CaptureKind → Type 0
IsFaultAt Serial bytes at kind = IsSerialFault bytes at kind
IsFaultAt Sdp bytes at kind = IsSdpInputFault bytes at kind
IsFaultAt (FromSdp frames) bytes at kind = ⊥

-- why no capture is made of bytes, for a command that reads a session description
abbrev pub IsRefusal : Command → List ℕ → SdpRefusal → Type 0
IsRefusal Serial bytes refusal = ⊥
IsRefusal Sdp bytes refusal = ⊥
IsRefusal (FromSdp frames) bytes refusal = IsFromSdpRefusal frames bytes refusal

-- the text that a command makes of its input for the sink of the result
abbrev pub IsAnswer : Command → List ℕ → List ℕ → Type 0
IsAnswer Serial bytes text = IsSerialAnswer bytes text
IsAnswer Sdp bytes text = IsSdpAnswer bytes text
IsAnswer (FromSdp frames) bytes text = IsFromSdpAnswer frames bytes text

-- what else a command does where it made this text of these bytes
abbrev pub Rest : Command → List ℕ → List ℕ → World → World → Type 0
Rest Serial bytes text before after = SerialRest before after
Rest Sdp bytes text before after = SdpRest before after
Rest (FromSdp frames) bytes text before after = FromSdpRest before after

-- ---- what a command does with its bytes

-- the sink took all that the command makes of these bytes
pub record IsGiven (command : Command) (bytes : List ℕ) (old new : Option (List ℕ)) : Type 0 where
  pub text : List ℕ
  pub answer : IsAnswer command bytes text
  pub alike : TellsAlike old new
  pub took : Appends old new text

-- the sink took a front of what the command makes of these bytes, maybe none or all of it
pub record IsGivenInPart (command : Command) (bytes : List ℕ) (old new : Option (List ℕ))
    : Type 0 where
  pub text : List ℕ
  pub answer : IsAnswer command bytes text
  pub took : TakesPrefix old new text

-- the bytes have this first fault, and are no input of the command
pub record IsFaulty (command : Command) (bytes : List ℕ) (fault : CaptureFault) : Type 0 where
  pub first : IsFaultAt command bytes fault.at fault.kind
  pub none : IsInput command bytes → ⊥

-- why the sink was not given all that the command makes of these bytes
abbrev pub IsUnanswered : Command → List ℕ → Option (List ℕ) → Option (List ℕ) → Type 0 → End
    → Type 0
IsUnanswered command bytes old new Failed Usage = ⊥
IsUnanswered command bytes old new Failed ReadFault = ⊥
IsUnanswered command bytes old new Failed WriteFault =
    Failed × IsGivenInPart command bytes old new
IsUnanswered command bytes old new Failed (Refused fault) = IsFaulty command bytes fault
IsUnanswered command bytes old new Failed TooLong = ⊥
IsUnanswered command bytes old new Failed (SdpRefused refusal) = IsRefusal command bytes refusal
IsUnanswered command bytes old new Failed NoMemory = Unit {0}

-- ---- how the run of a command ends

-- It ended well: it came by its bytes, the sink took all that it makes of them, and it did what
-- else it does.
pub record IsDone (command : Command) (before after : World) : Type 0 where
  pub bytes : List ℕ
  pub read : HasRead command before after bytes
  pub given : IsGiven command bytes before.taken after.taken
  pub rest : Rest command bytes given.text before after

-- it came by its bytes, and the sink took a front of what it makes of them
pub record IsCutShort (command : Command) (before after : World) : Type 0 where
  pub bytes : List ℕ
  pub read : HasRead command before after bytes
  pub given : IsGivenInPart command bytes before.taken after.taken

-- it came by its bytes, and they have this first fault
pub record IsRefused (command : Command) (before after : World) (fault : CaptureFault)
    : Type 0 where
  pub bytes : List ℕ
  pub read : HasRead command before after bytes
  pub faulty : IsFaulty command bytes fault

-- it came by its bytes, and for this reason no capture is made of them
pub record IsDeclined (command : Command) (before after : World) (refusal : SdpRefusal)
    : Type 0 where
  pub bytes : List ℕ
  pub read : HasRead command before after bytes
  pub refused : IsRefusal command bytes refusal

-- The cause of an end otherwise than well. A fault of reading comes only where the source's count
-- rose, and not more than the most was read; one of writing only where that of the sink rose, which
-- took a front of the answer; a refusal tells the first fault, or the first reason why no capture
-- is made; an input is too long where one byte more than the most was read; and where memory ran
-- out not more than the most was read.
abbrev pub IsCause : Command → World → World → End → Type 0
IsCause command before after Usage = ⊥
IsCause command before after ReadFault =
    ReadFailed before after × BoundedRead before.left after.left MOST_BYTES
IsCause command before after WriteFault =
    WriteFailed before after × IsCutShort command before after
IsCause command before after (Refused fault) = IsRefused command before after fault
IsCause command before after TooLong = LongRead before.left after.left MOST_BYTES
IsCause command before after (SdpRefused refusal) = IsDeclined command before after refusal
IsCause command before after NoMemory = BoundedRead before.left after.left MOST_BYTES

-- It ended otherwise than well: so, for this cause, with the status and the line of that.
pub record HasFailed (command : Command) (status : ℕ) (before after : World) : Type 0 where
  pub end : End
  pub cause : IsCause command before after end
  pub told : IsToldEnd status before.told after.told (LineFailed before after) end

-- ---- runs

-- A run of a command. It ends with one of the command's statuses: with 0 it is done, and with each
-- other it has the cause of an end that has this status, and was told so. At most one byte more
-- than the most is read. Where the outside tells what the command will read: an input gets its
-- answer, unless the source or the sink fails or memory runs out; bytes with a fault, or of which
-- no capture is made, are refused, and too many are too long, unless the source fails or memory
-- runs out.
pub record IsRunOf (command : Command) (status : ℕ) (before after : World) : Type 0 where
  pub statuses : Contains (statuses_of command) status
  pub done : status ≡ 0 → IsDone command before after
  pub failed : (status ≡ 0 → ⊥) → HasFailed command status before after
  pub bounded : BoundedRead before.left after.left (MOST_BYTES + 1)
  pub complete : (bytes : List ℕ) → Holds command before bytes → length bytes ≤ MOST_BYTES
      → IsInput command bytes → (ReadFailed before after → ⊥) → (WriteFailed before after → ⊥)
      → (status ≡ 0) ⊎ (status ≡ 12)
  pub refuses : (bytes : List ℕ) (at : ℕ) (kind : CaptureKind) → Holds command before bytes
      → length bytes ≤ MOST_BYTES → IsFaultAt command bytes at kind
      → (ReadFailed before after → ⊥) → (status ≡ 5) ⊎ (status ≡ 12)
  pub declines : (bytes : List ℕ) (refusal : SdpRefusal) → Holds command before bytes
      → length bytes ≤ MOST_BYTES → IsRefusal command bytes refusal
      → (ReadFailed before after → ⊥) → (status ≡ 10) ⊎ (status ≡ 12)
  pub stops : (bytes : List ℕ) → Holds command before bytes → MOST_BYTES < length bytes
      → (ReadFailed before after → ⊥) → (status ≡ 7) ⊎ (status ≡ 12)

-- A run by the command of its words. Where they are those of no command, this is told.
abbrev pub IsRun : Option Command → ℕ → World → World → Type 0
IsRun None status before after =
    IsToldEnd status before.told after.told (LineFailed before after) Usage
IsRun (Some command) status before after = IsRunOf command status before after
