-- Bytes that are a capture and nothing more. (This project's own.)
use Rattle.std.specs.Prelude.{◌≡◌, ℕ, ◌<◌, ◌⊎◌, List, length}
use Rattle.capture_file.specs.Capture.{CaptureParts, IsCaptureAt, IsCaptureText}
use Rattle.capture_file.specs.Fault.{FaultIs}
use Rattle.capture_file.specs.declared.fault.CaptureFault.{CaptureFault}
use Rattle.capture_file.specs.declared.fault.CaptureKind.{CaptureKind}
use Rattle.capture_file.specs.declared.fault.CaptureKind.TheVariants.{Trailing}

-- the bytes are the text of a capture
abbrev pub IsCaptureAlone : List ℕ → Type 0
IsCaptureAlone bytes = (capture : CaptureParts) × IsCaptureText capture bytes

-- bytes after a capture, which begin at this place
pub record IsTrailing (bytes : List ℕ) (at : ℕ) : Type 0 where
  pub capture : CaptureParts
  pub front : IsCaptureAt bytes capture at
  pub more : at < length bytes

-- The first fault of the bytes, and its place: that of a capture; or, where a capture stands in
-- front, that bytes follow it.
abbrev pub IsRefusedAt : List ℕ → ℕ → CaptureKind → Type 0
IsRefusedAt bytes at kind = FaultIs bytes at kind ⊎ (IsTrailing bytes at × (kind ≡ Trailing))

-- all of the bytes are the text of this capture and of no other, and they have no fault
pub record IsWholeInput (bytes : List ℕ) (capture : CaptureParts) : Type 0 where
  pub read : IsCaptureText capture bytes
  pub only : (other : CaptureParts) → IsCaptureText other bytes → other ≡ capture
  pub sound : (at : ℕ) (kind : CaptureKind) → IsRefusedAt bytes at kind → ⊥

-- the bytes have this first fault, and are the text of no capture
pub record IsNoCapture (bytes : List ℕ) (fault : CaptureFault) : Type 0 where
  pub first : IsRefusedAt bytes fault.at fault.kind
  pub none : IsCaptureAlone bytes → ⊥
