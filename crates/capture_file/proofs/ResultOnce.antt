-- Each record of a result is judged in one way.
use Rattle.std.proofs.Common.{◌≡◌, ℕ, List, [], ◌∷◌, ◌++◌, Some, None, Result, Ok, Err, sym, ap}
use Rattle.std.proofs.Common.{◌∙◌}
use Rattle.io_caps.specs.declared.device.DeviceParts.{DeviceParts}
use Rattle.exact_text.specs.Readings.{whole_of}
use Rattle.exact_text.proofs.Exact.{IsBytes, some_is}
use Rattle.capture_file.specs.declared.before.RecordKind.{RecordKind}
use Rattle.capture_file.specs.declared.before.RecordKind.TheVariants.{ItemRecord, EndRecord}
use Rattle.capture_file.specs.declared.before.RecordKind.TheVariants.{NoRecord}
use Rattle.capture_file.specs.declared.entries.ResultItem.{ResultItem}
use Rattle.capture_file.specs.declared.entries.ResultItem.TheVariants.{End}
use Rattle.capture_file.specs.declared.fault.CaptureKind.{CaptureKind}
use Rattle.capture_file.specs.declared.format.Format.{Format}
use Rattle.capture_file.specs.declared.walk.Step.{Step}
use Rattle.capture_file.specs.declared.walk.Step.TheVariants.{Next, Last}
use Rattle.capture_file.specs.Result.{result_body}
use Rattle.capture_file.specs.ResultText.{IsClientThere}
use Rattle.capture_file.specs.ResultFault.{result_sort, ResultFrontParts, with_record, IsItemRead}
use Rattle.capture_file.specs.ResultFault.{ResultStep, IsAdded, IsClosed, IsStep, JudgesResult}
use Rattle.capture_file.proofs.RecordLaws.{spelled, spelled_reads, none_spelled}
use Rattle.capture_file.proofs.ResultLaws.{result_law}
use Rattle.capture_file.proofs.WalkLaws.{JudgesOnce}

-- ---- what a body is read as

pub item_read : (format : Format) (d : DeviceParts) (tag : ℕ) (body : List ℕ) (x : ResultItem)
    → IsBytes body
    → whole_of (result_body format d tag).read body ≡ Some x → IsClientThere x
    → IsItemRead format d tag body x
item_read format d tag body x are e there =
    (there, spelled (result_body format d tag) (result_law format d tag).lawful body x are e)

pub no_item_read : (format : Format) (d : DeviceParts) (tag : ℕ) (body : List ℕ)
    → whole_of (result_body format d tag).read body ≡ None → (x : ResultItem)
    → IsItemRead format d tag body x → ⊥
no_item_read format d tag body none x h =
    none_spelled (result_body format d tag) (result_law format d tag).lawful body none x h.1

item_read_once : (format : Format) (d : DeviceParts) (tag : ℕ) (body : List ℕ) (x : ResultItem)
    → whole_of (result_body format d tag).read body ≡ Some x → (other : ResultItem)
    → IsItemRead format d tag body other → x ≡ other
item_read_once format d tag body x e other h =
    some_is x other (sym e
    ∙ spelled_reads (result_body format d tag) (result_law format d tag).lawful body other h.1)

pub item_read_refused : (format : Format) (d : DeviceParts) (tag : ℕ) (body : List ℕ)
    (x : ResultItem)
    → whole_of (result_body format d tag).read body ≡ Some x → (IsClientThere x → ⊥)
    → (other : ResultItem) → IsItemRead format d tag body other → ⊥
item_read_refused format d tag body x e never other h =
    never (rw (item_read_once format d tag body x e other h) h.0)

items_same : (format : Format) (d : DeviceParts) (tag : ℕ) (body : List ℕ) (x y : ResultItem)
    → IsItemRead format d tag body x → IsItemRead format d tag body y → x ≡ y
items_same format d tag body x y h k =
    item_read_once format d tag body x
    (spelled_reads (result_body format d tag) (result_law format d tag).lawful body x h.1) y k

-- ---- what a record does

abbrev next_front : ResultFrontParts → ResultStep
next_front b = Ok (Next b)

abbrev closed_file : List (ℕ × ResultItem) → ResultStep
closed_file file = Ok (Last file)

abbrev refused : CaptureKind → ResultStep
refused kind = Err kind

added_once : (b : ResultFrontParts) (at tag : ℕ) (body : List ℕ) (x y : ResultStep)
    → IsAdded b at tag body x → IsAdded b at tag body y → x ≡ y
added_once b at tag body (Ok (Next n)) (Ok (Next m)) h k =
    ap next_front (h.1.1
    ∙ ap (λ (x : ResultItem). with_record b at x)
    (items_same b.format b.device tag body h.0 k.0 h.1.0 k.1.0) ∙ sym k.1.1)
added_once b at tag body (Ok (Next n)) (Ok (Last file)) h k = absurd k
added_once b at tag body (Ok (Next n)) (Err e) h k = absurd (k.1 h.0 h.1.0)
added_once b at tag body (Ok (Last file)) y h k = absurd h
added_once b at tag body (Err e) (Ok (Next m)) h k = absurd (h.1 k.0 k.1.0)
added_once b at tag body (Err e) (Ok (Last file)) h k = absurd k
added_once b at tag body (Err e) (Err f) h k = ap refused (h.0 ∙ sym k.0)

closed_once : (b : ResultFrontParts) (at : ℕ) (body : List ℕ) (x y : ResultStep)
    → IsClosed b at body x → IsClosed b at body y → x ≡ y
closed_once b at body (Ok (Next n)) y h k = absurd h
closed_once b at body (Ok (Last f)) (Ok (Next m)) h k = absurd k
closed_once b at body (Ok (Last f)) (Ok (Last g)) h k = ap closed_file (h.1 ∙ sym k.1)
closed_once b at body (Ok (Last f)) (Err e) h k = absurd (k.1 h.0)
closed_once b at body (Err e) (Ok (Next m)) h k = absurd k
closed_once b at body (Err e) (Ok (Last g)) h k = absurd (h.1 k.0)
closed_once b at body (Err e) (Err f) h k = ap refused (h.0 ∙ sym k.0)

step_once : (sort : RecordKind) (b : ResultFrontParts) (at tag : ℕ) (body : List ℕ)
    (x y : ResultStep) → IsStep sort b at tag body x → IsStep sort b at tag body y → x ≡ y
step_once (NoRecord kind) b at tag body x y h k = h ∙ sym k
step_once ItemRecord b at tag body x y h k = added_once b at tag body x y h k
step_once EndRecord b at tag body x y h k = closed_once b at body x y h k

pub result_once : JudgesOnce JudgesResult
result_once b at tag body x y h k = step_once (result_sort tag) b at tag body x y h k
