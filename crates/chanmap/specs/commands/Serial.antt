-- What `serial` reads and makes. (This project's own.)
use Rattle.std.specs.Prelude.{◌≡◌, ℕ, List}
use Rattle.capture_file.specs.Capture.{CaptureParts}
use Rattle.capture_file.specs.declared.fault.CaptureKind.{CaptureKind}
use Rattle.serial_player.specs.Written.{IsResultOf}
use Rattle.chanmap.specs.Captures.{IsCaptureAlone, IsRefusedAt, IsWholeInput}
use Rattle.chanmap.specs.World.{World}

-- its input: the text of a capture, and nothing more
abbrev pub IsSerialInput : List ℕ → Type 0
IsSerialInput bytes = IsCaptureAlone bytes

-- the first fault of other bytes: its place and its kind
abbrev pub IsSerialFault : List ℕ → ℕ → CaptureKind → Type 0
IsSerialFault bytes at kind = IsRefusedAt bytes at kind

-- The bytes are the text of one capture and have no fault, and this text is its result: that of the
-- capture's serial history, which is legal.
pub record IsSerialAnswer (bytes text : List ℕ) : Type 0 where
  pub capture : CaptureParts
  pub input : IsWholeInput bytes capture
  pub result : IsResultOf capture text

-- It does nothing else: what the sink of the lines took stays.
abbrev pub SerialRest : World → World → Type 0
SerialRest before after = after.told ≡ before.told
