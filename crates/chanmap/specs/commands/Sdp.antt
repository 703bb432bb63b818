-- What `sdp` reads and makes. (This project's own.)
use Rattle.std.specs.Prelude.{◌≡◌, ℕ, List}
use Rattle.capture_file.specs.Capture.{CaptureParts}
use Rattle.capture_file.specs.declared.fault.CaptureKind.{CaptureKind}
use Rattle.sdp_audio.specs.Text.{sdp_text}
use Rattle.chanmap.specs.Captures.{IsCaptureAlone, IsRefusedAt, IsWholeInput}
use Rattle.chanmap.specs.World.{World}

-- its input: the text of a capture, and nothing more
abbrev pub IsSdpInput : List ℕ → Type 0
IsSdpInput bytes = IsCaptureAlone bytes

-- the first fault of other bytes: its place and its kind
abbrev pub IsSdpInputFault : List ℕ → ℕ → CaptureKind → Type 0
IsSdpInputFault bytes at kind = IsRefusedAt bytes at kind

-- The bytes are the text of one capture and have no fault, and this text is the session description
-- of its device.
pub record IsSdpAnswer (bytes text : List ℕ) : Type 0 where
  pub capture : CaptureParts
  pub input : IsWholeInput bytes capture
  pub described : text ≡ sdp_text capture.setup.device

-- It does nothing else: what the sink of the lines took stays.
abbrev pub SdpRest : World → World → Type 0
SdpRest before after = after.told ≡ before.told
