-- Captures that are all of their bytes.
use Rattle.std.proofs.Common.{◌≡◌, ℕ, ◌<◌, List, length, take, inl, inr, refl, sym, ap, subst, ◌∙◌}
use Rattle.std.proofs.Common.{arith}
use Rattle.std.proofs.lemmas.List.{take_all}
use Rattle.io_caps.specs.declared.memory.Or.{Or}
use Rattle.io_caps.specs.declared.memory.Or.TheVariants.{Fault, NoMemory}
use Rattle.capture_file.specs.Capture.{CaptureParts, IsCaptureAt, IsCaptureText}
use Rattle.capture_file.specs.Fault.{FaultIs}
use Rattle.capture_file.specs.declared.fault.CaptureFault.{CaptureFault}
use Rattle.capture_file.specs.declared.fault.CaptureKind.{CaptureKind}
use Rattle.capture_file.specs.declared.fault.CaptureKind.TheVariants.{Trailing}
use Rattle.capture_file.specs.Walk.{IfFault}
use Rattle.chanmap.specs.Captures.{IsNoCapture, IsRefusedAt, IsWholeInput}

-- a capture that is all of the bytes ends at their end
whole_at : (bytes : List ℕ) (c : CaptureParts) → IsCaptureText c bytes
    → IsCaptureAt bytes c (length bytes)
whole_at bytes c text =
    record { within = omega arith; text = rw (take_all (length bytes) bytes (omega arith)) text }

at_whole : (bytes : List ℕ) (c : CaptureParts) (place : ℕ) → place ≡ length bytes
    → IsCaptureAt bytes c place → IsCaptureText c bytes
at_whole bytes c place end at =
    subst (IsCaptureText c) (ap (λ (n : ℕ). take n bytes) end
    ∙ take_all (length bytes) bytes (omega arith)) at.text

-- where a capture ends at the end of the bytes, they have no fault
no_fault : (bytes : List ℕ) (c : CaptureParts) (place : ℕ) → place ≡ length bytes
    → ((d : CaptureParts) (at : ℕ) → IsCaptureAt bytes d at → (c ≡ d) × (place ≡ at))
    → ((at : ℕ) (kind : CaptureKind) → FaultIs bytes at kind → ⊥)
    → (at : ℕ) (kind : CaptureKind) → IsRefusedAt bytes at kind → ⊥
no_fault bytes c place end only exact at kind (inl fault) = exact at kind fault
no_fault bytes c place end only exact at kind (inr trailing) =
    let same = (only trailing.0.capture at trailing.0.front).1 in
    omega (arith, same, end, trailing.0.more)

-- what was read up to the end of the bytes is all of them
pub whole_input : (bytes : List ℕ) (c : CaptureParts) (place : ℕ) → place ≡ length bytes
    → IsCaptureAt bytes c place
    → ((d : CaptureParts) (at : ℕ) → IsCaptureAt bytes d at → (c ≡ d) × (place ≡ at))
    → ((at : ℕ) (kind : CaptureKind) → FaultIs bytes at kind → ⊥) → IsWholeInput bytes c
whole_input bytes c place end at only exact = record {
  read = at_whole bytes c place end at;
  only = λ d text. sym ((only d (length bytes) (whole_at bytes d text)).0);
  sound = no_fault bytes c place end only exact;
}

-- bytes after a capture are a fault
pub trailing : (bytes : List ℕ) (c : CaptureParts) (place : ℕ) → place < length bytes
    → IsCaptureAt bytes c place
    → ((d : CaptureParts) (at : ℕ) → IsCaptureAt bytes d at → (c ≡ d) × (place ≡ at))
    → IsNoCapture bytes record { at = place; kind = Trailing }
trailing bytes c place short at only = record {
  first = inr (record { capture = c; front = at; more = short }, refl);
  none = λ other.
      let same = (only other.0 (length bytes) (whole_at bytes other.0 other.1)).1 in
      omega (arith, same, short);
}

-- bytes whose front is refused are no capture
pub refused : (bytes : List ℕ) (e : Or CaptureFault) → IfFault e (λ f. FaultIs bytes f.at f.kind)
    → ((c : CaptureParts) (at : ℕ) → IsCaptureAt bytes c at → IfFault e (λ f. ⊥))
    → IfFault e (IsNoCapture bytes)
refused bytes NoMemory fault only = tt
refused bytes (Fault f) fault only = record {
  first = inl fault;
  none = λ other. only other.0 (length bytes) (whole_at bytes other.0 other.1);
}
