-- The first fault of bytes that are no result, and its place. (This project's own.)
use Rattle.std.specs.Prelude.{◌≡◌, ℕ, ◌+◌, ◌<◌, ◌||◌, List, [], ◌∷◌, ◌++◌, length, drop, Result, Ok}
use Rattle.std.specs.Prelude.{Err, ◌⊎◌, ◌==◌, if◌then◌else◌}
use Rattle.std.specs.List.{flat_map}
use Rattle.io_caps.specs.declared.device.DeviceParts.{DeviceParts}
use Rattle.exact_text.specs.Forms.{IsSpelled}
use Rattle.capture_file.specs.declared.before.RecordKind.{RecordKind}
use Rattle.capture_file.specs.declared.before.RecordKind.TheVariants.{ItemRecord, EndRecord}
use Rattle.capture_file.specs.declared.before.RecordKind.TheVariants.{NoRecord}
use Rattle.capture_file.specs.declared.entries.ResultItem.{ResultItem}
use Rattle.capture_file.specs.declared.entries.ResultItem.TheVariants.{End}
use Rattle.capture_file.specs.declared.fault.CaptureKind.{CaptureKind}
use Rattle.capture_file.specs.declared.fault.CaptureKind.TheVariants.{Magic, Cut, Tag, Body}
use Rattle.capture_file.specs.declared.fault.CaptureKind.TheVariants.{Trailing}
use Rattle.capture_file.specs.declared.format.Format.{Format}
use Rattle.capture_file.specs.declared.walk.Step.{Step}
use Rattle.capture_file.specs.declared.walk.Step.TheVariants.{Next, Last}
use Rattle.capture_file.specs.Tags.{claim_tag, call_tag, reply_tag, end_tag}
use Rattle.capture_file.specs.Items.{end_text}
use Rattle.capture_file.specs.Formats.{result_magic}
use Rattle.capture_file.specs.Result.{result_body, result_item}
use Rattle.capture_file.specs.ResultText.{IsClientThere, AreRecords, placed}
use Rattle.capture_file.specs.Walk.{IsFaulty}

-- ---- one record

-- what a tag says in a result: a tag that is not one of it is `Tag`
abbrev pub result_sort : ℕ → RecordKind
result_sort tag =
    if tag == claim_tag || (tag == call_tag || tag == reply_tag) then ItemRecord
    else (if tag == end_tag then EndRecord
    else NoRecord Tag)

-- what stands before a record of a result: the format, the device, and the records with their
-- places
pub record ResultFrontParts : Type 0 where
  pub format : Format
  pub device : DeviceParts
  pub records : List (ℕ × ResultItem)

-- a format, a device, and records with their places
abbrev pub result_front : Format → DeviceParts → List (ℕ × ResultItem) → ResultFrontParts
result_front format d records = record { format = format; device = d; records = records }

-- the same, and a record more
abbrev pub with_record : ResultFrontParts → ℕ → ResultItem → ResultFrontParts
with_record b at item = result_front b.format b.device (b.records ++ (at, item) ∷ [])

-- the body of a tag spells this record, whose client is there
abbrev pub IsItemRead : Format → DeviceParts → ℕ → List ℕ → ResultItem → Type 0
IsItemRead format d tag body item =
    IsClientThere item × IsSpelled (result_body format d tag) body item

-- how a record of a result was judged
abbrev pub ResultStep : Type 0
ResultStep = Result (Step ResultFrontParts (List (ℕ × ResultItem))) CaptureKind

-- a record is added with its place to those before it, or has the fault `Body`, where its body
-- spells none
abbrev pub IsAdded : ResultFrontParts → ℕ → ℕ → List ℕ → ResultStep → Type 0
IsAdded b at tag body (Ok (Next next)) =
    (item : ResultItem) × (IsItemRead b.format b.device tag body item
    × (next ≡ with_record b at item))
IsAdded b at tag body (Ok (Last file)) = ⊥
IsAdded b at tag body (Err kind) =
    (kind ≡ Body) × ((item : ResultItem) → IsItemRead b.format b.device tag body item → ⊥)

-- the last record has no body, and is added with its place; or it has the fault `Body`
abbrev pub IsClosed : ResultFrontParts → ℕ → List ℕ → ResultStep → Type 0
IsClosed b at body (Ok (Next next)) = ⊥
IsClosed b at body (Ok (Last file)) = (body ≡ []) × (file ≡ b.records ++ (at, End) ∷ [])
IsClosed b at body (Err kind) = (kind ≡ Body) × (body ≡ [] → ⊥)

-- what a record of this sort does to what stands before it, or its fault
abbrev pub IsStep : RecordKind → ResultFrontParts → ℕ → ℕ → List ℕ → ResultStep → Type 0
IsStep (NoRecord kind) b at tag body judged = judged ≡ Err kind
IsStep ItemRecord b at tag body judged = IsAdded b at tag body judged
IsStep EndRecord b at tag body judged = IsClosed b at body judged

-- what a record of a result does to what stands before it, or its fault
abbrev pub JudgesResult : ResultFrontParts → ℕ → ℕ → List ℕ → ResultStep → Type 0
JudgesResult b at tag body judged = IsStep (result_sort tag) b at tag body judged

-- ---- the first fault

-- the magic, and good records; and after these, at this place, no whole record, or one with this
-- fault
pub record BreaksAt (format : Format) (d : DeviceParts) (bytes : List ℕ) (start at : ℕ)
    (kind : CaptureKind) : Type 0 where
  pub items : List ResultItem
  pub records : AreRecords format d items
  pub behind : List ℕ
  pub text : drop start bytes
      ≡ result_magic format ++ (flat_map (result_item format d).text items ++ behind)
  pub place : at + length behind ≡ length bytes
  pub faulty : IsFaulty JudgesResult Cut
      (result_front format d (placed format d (start + length (result_magic format)) items)) at
      behind kind

-- a whole result, and at this place a byte behind it
pub record RunsPast (format : Format) (d : DeviceParts) (bytes : List ℕ) (start at : ℕ) :
    Type 0 where
  pub items : List ResultItem
  pub records : AreRecords format d items
  pub behind : List ℕ
  pub text : drop start bytes
      ≡ result_magic format ++ (flat_map (result_item format d).text items ++ (end_text ++ behind))
  pub more : behind ≡ [] → ⊥
  pub place : at + length behind ≡ length bytes

-- The first fault of bytes from a place on, as a result of this device, and its place: they do not
-- begin with the magic; or what follows it and good records is faulty; or a byte follows the last
-- record.
abbrev pub ResultFaultIs : Format → DeviceParts → List ℕ → ℕ → ℕ → CaptureKind → Type 0
ResultFaultIs format d bytes start at kind =
    (((rest : List ℕ) → drop start bytes ≡ result_magic format ++ rest → ⊥)
    × ((at ≡ start) × (kind ≡ Magic)))
    ⊎ (BreaksAt format d bytes start at kind
    ⊎ (RunsPast format d bytes start at × (kind ≡ Trailing)))
