-- Each record of a capture after its device is judged in one way.
use Rattle.std.proofs.Common.{◌≡◌, ℕ, ◌*◌, ◌<◌, List, [], ◌∷◌, ◌++◌, length, Result, Ok, Err, sym}
use Rattle.std.proofs.Common.{ap, ◌∙◌, inl, inr}
use Rattle.std.proofs.Math.Nat.{eq_of_mul-eq-mul_right}
use Rattle.std.specs.List.{sum_by}
use Rattle.map_entry.specs.Setup.{SetupParts}
use Rattle.capture_file.specs.declared.items.Item.{Item}
use Rattle.capture_file.specs.declared.before.RecordKind.{RecordKind}
use Rattle.capture_file.specs.declared.before.RecordKind.TheVariants.{ItemRecord, EndRecord}
use Rattle.capture_file.specs.declared.before.RecordKind.TheVariants.{NoRecord}
use Rattle.capture_file.specs.declared.fault.CaptureKind.{CaptureKind}
use Rattle.capture_file.specs.declared.walk.Step.{Step}
use Rattle.capture_file.specs.declared.walk.Step.TheVariants.{Next, Last}
use Rattle.capture_file.specs.Items.{item_body, claims_of}
use Rattle.capture_file.specs.Capture.{CaptureParts, capture_of}
use Rattle.capture_file.specs.Fault.{FrontParts, before, sort_of, IsRead, IsTaken, IsEnded}
use Rattle.capture_file.specs.Fault.{IsLater, Judges}
use Rattle.capture_file.proofs.RecordLaws.{item_law, spelled_reads, item_once}
use Rattle.capture_file.proofs.WalkLaws.{JudgesOnce}

abbrev Judged : Type 0
Judged = Result (Step FrontParts CaptureParts) CaptureKind

abbrev taken : FrontParts → Judged
taken b = Ok (Next b)

abbrev ended : CaptureParts → Judged
ended c = Ok (Last c)

abbrev refused : CaptureKind → Judged
refused kind = Err kind

items_same : (setup : SetupParts) (tag : ℕ) (body : List ℕ) (x y : Item) → IsRead setup tag body x
    → IsRead setup tag body y → x ≡ y
items_same setup tag body x y h k =
    item_once setup tag body x (spelled_reads (item_body tag) (item_law tag).lawful body x h.1) y k

taken_once : (b : FrontParts) (tag : ℕ) (body : List ℕ) (x y : Judged) → IsTaken b tag body x
    → IsTaken b tag body y → x ≡ y
taken_once b tag body (Ok (Next n)) (Ok (Next m)) h k =
    ap taken (h.1.1 ∙ ap (λ (x : Item). before b.opening (b.items ++ x ∷ []))
    (items_same b.opening.setup tag body h.0 k.0 h.1.0 k.1.0) ∙ sym k.1.1)
taken_once b tag body (Ok (Next n)) (Ok (Last c)) h k = absurd k
taken_once b tag body (Ok (Next n)) (Err e) h k = absurd (k.1 h.0 h.1.0)
taken_once b tag body (Ok (Last c)) y h k = absurd h
taken_once b tag body (Err e) (Ok (Next m)) h k = absurd (h.1 k.0 k.1.0)
taken_once b tag body (Err e) (Ok (Last c)) h k = absurd k
taken_once b tag body (Err e) (Err f) h k = ap refused (h.0 ∙ sym k.0)

same_factor : (n a b c : ℕ) → 0 < n → c ≡ a * n → c ≡ b * n → a ≡ b
same_factor n a b c some p q = eq_of_mul-eq-mul_right n some a b (sym p ∙ q)

error_once : (b : FrontParts) (body : List ℕ) (e f : CaptureKind) → IsEnded b body (Err e)
    → IsEnded b body (Err f) → e ≡ f
error_once b body e f (inl h) (inl k) = h.0 ∙ sym k.0
error_once b body e f (inl h) (inr k) = absurd (h.1 k.1.0)
error_once b body e f (inr h) (inl k) = absurd (k.1 h.1.0)
error_once b body e f (inr h) (inr k) = h.0 ∙ sym k.0

no_error : (b : FrontParts) (body : List ℕ) (c : CaptureParts) (e : CaptureKind)
    → IsEnded b body (Ok (Last c)) → IsEnded b body (Err e) → ⊥
no_error b body c e h (inl k) = k.1 h.0
no_error b body c e h (inr k) = k.1.1 c.ticks h.1.1.1

ended_once : (b : FrontParts) (body : List ℕ) (x y : Judged) → IsEnded b body x → IsEnded b body y
    → x ≡ y
ended_once b body (Ok (Next n)) y h k = absurd h
ended_once b body (Ok (Last c)) (Ok (Next m)) h k = absurd k
ended_once b body (Ok (Last c)) (Ok (Last d)) h k =
    let ticks : c.ticks ≡ d.ticks =
    same_factor (length b.opening.setup.device.outputs) c.ticks d.ticks
    (sum_by claims_of b.items) h.1.0 h.1.1.1.0 k.1.1.1.0 in
    ap ended (h.1.1.0 ∙ ap (λ (t : ℕ). capture_of b.opening b.items t) ticks ∙ sym k.1.1.0)
ended_once b body (Ok (Last c)) (Err e) h k = absurd (no_error b body c e h k)
ended_once b body (Err e) (Ok (Next m)) h k = absurd k
ended_once b body (Err e) (Ok (Last d)) h k = absurd (no_error b body d e k h)
ended_once b body (Err e) (Err f) h k = ap refused (error_once b body e f h k)

later_once : (sort : RecordKind) (b : FrontParts) (tag : ℕ) (body : List ℕ) (x y : Judged)
    → IsLater sort b tag body x → IsLater sort b tag body y → x ≡ y
later_once (NoRecord kind) b tag body x y h k = h ∙ sym k
later_once ItemRecord b tag body x y h k = taken_once b tag body x y h k
later_once EndRecord b tag body x y h k = ended_once b body x y h k

pub judges_once : JudgesOnce Judges
judges_once b at tag body x y h k = later_once (sort_of b.opening.format tag) b tag body x y h k
