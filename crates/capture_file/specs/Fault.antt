-- The first fault of bytes that are no capture, and its place. (This project's own.)
use Rattle.std.specs.Prelude.{◌≡◌, ℕ, ◌+◌, ◌<◌, ◌||◌, List, [], ◌∷◌, ◌++◌, length, All, Result, Ok}
use Rattle.std.specs.Prelude.{Err, ◌⊎◌, ◌==◌, if◌then◌else◌}
use Rattle.std.specs.List.{flat_map}
use Rattle.io_caps.specs.declared.memory.Or.{Or}
use Rattle.map_entry.specs.Setup.{SetupParts}
use Rattle.map_entry.specs.declared.grain.Grain.{Grain}
use Rattle.exact_text.specs.Forms.{IsSpelled}
use Rattle.capture_file.specs.declared.fault.CaptureFault.{CaptureFault}
use Rattle.capture_file.specs.declared.fault.CaptureKind.{CaptureKind}
use Rattle.capture_file.specs.declared.fault.CaptureKind.TheVariants.{Magic, Cut, Tag, Order}
use Rattle.capture_file.specs.declared.fault.CaptureKind.TheVariants.{Device, Body, Work}
use Rattle.capture_file.specs.declared.items.Item.{Item}
use Rattle.capture_file.specs.declared.before.DeviceForm.{DeviceForm}
use Rattle.capture_file.specs.declared.before.DeviceForm.TheVariants.{Plain, Json}
use Rattle.capture_file.specs.declared.before.RecordKind.{RecordKind}
use Rattle.capture_file.specs.declared.before.RecordKind.TheVariants.{ItemRecord, EndRecord}
use Rattle.capture_file.specs.declared.before.RecordKind.TheVariants.{NoRecord}
use Rattle.capture_file.specs.declared.walk.Step.{Step}
use Rattle.capture_file.specs.declared.walk.Step.TheVariants.{Next, Last}
use Rattle.capture_file.specs.Tags.{device_tag, json_device_tag, packet_tag, piece_tag, ask_tag}
use Rattle.capture_file.specs.Tags.{work_tag, end_tag, grain_tag}
use Rattle.capture_file.specs.declared.format.Format.{Format}
use Rattle.capture_file.specs.declared.format.Format.TheVariants.{Two}
use Rattle.capture_file.specs.declared.opening.Opening.{Opening}
use Rattle.capture_file.specs.Formats.{AllowsGrain, capture_magic, grain_body, misplaced_grain}
use Rattle.capture_file.specs.Items.{item, item_body, IsItemThere}
use Rattle.capture_file.specs.Capture.{CaptureParts, capture_of, AreItems, AreTicks, IsBase, Begins}
use Rattle.capture_file.specs.Capture.{Opens}
use Rattle.capture_file.specs.Walk.{IfFault, IsCut, IsFaulty, Stands}

-- ---- the first record

-- the form of a device that a tag says, or why it cannot be the tag of the first record
abbrev pub device_form : Format → ℕ → Result DeviceForm CaptureKind
device_form format tag =
    if tag == device_tag then Ok Plain
    else (if tag == json_device_tag then Ok Json
    else (if tag == packet_tag
    || (tag == piece_tag || (tag == ask_tag || (tag == work_tag || tag == end_tag))) then Err Order
    else (if tag == grain_tag then Err (misplaced_grain format)
    else Err Tag)))

-- what a device record opens: a device in order, or the fault `Device`, where its body says none in
-- this form
abbrev pub IsOpened : DeviceForm → List ℕ → Result SetupParts CaptureKind → Type 0
IsOpened form body (Ok setup) = IsBase form body setup
IsOpened form body (Err kind) =
    (kind ≡ Device) × ((setup : SetupParts) → IsBase form body setup → ⊥)

-- what the first record opens, where its tag can be that of one
abbrev pub IsFirst : Result DeviceForm CaptureKind → List ℕ → Result SetupParts CaptureKind → Type 0
IsFirst (Err kind) body judged = judged ≡ Err kind
IsFirst (Ok form) body judged = IsOpened form body judged

-- ---- the others

-- what a tag says after the device and the grain: a further one of these is misplaced, and a tag
-- that is not known is `Tag`
abbrev pub sort_of : Format → ℕ → RecordKind
sort_of format tag =
    if tag == device_tag || tag == json_device_tag then NoRecord Order
    else (if tag == packet_tag
    || (tag == piece_tag || (tag == ask_tag || tag == work_tag)) then ItemRecord
    else (if tag == end_tag then EndRecord
    else (if tag == grain_tag then NoRecord (misplaced_grain format)
    else NoRecord Tag)))

-- what stands before a record after the device and the grain: these, and the records between
pub record FrontParts : Type 0 where
  pub opening : Opening
  pub items : List Item

-- an opening and the records after it
abbrev pub before : Opening → List Item → FrontParts
before opening items = record { opening = opening; items = items }

-- the format can say the grain, and the records name inputs and clients that are there
pub record IsFront (b : FrontParts) : Type 0 where
  pub grain : AllowsGrain b.opening.format b.opening.setup.grain
  pub there : All (IsItemThere (length b.opening.setup.device.inputs)) b.items

-- the body of a tag spells this record, which names what is there
abbrev pub IsRead : SetupParts → ℕ → List ℕ → Item → Type 0
IsRead setup tag body item =
    IsItemThere (length setup.device.inputs) item × IsSpelled (item_body tag) body item

-- a record is added to those before it, or has the fault `Body`, where its body spells none
abbrev pub IsTaken : FrontParts → ℕ → List ℕ → Result (Step FrontParts CaptureParts) CaptureKind
    → Type 0
IsTaken b tag body (Ok (Next next)) =
    (item : Item)
    × (IsRead b.opening.setup tag body item × (next ≡ before b.opening (b.items ++ item ∷ [])))
IsTaken b tag body (Ok (Last capture)) = ⊥
IsTaken b tag body (Err kind) =
    (kind ≡ Body) × ((item : Item) → IsRead b.opening.setup tag body item → ⊥)

-- the last record has no body, or the fault `Body`; the claims before it fill whole ticks, or it
-- has the fault `Work`
abbrev pub IsEnded : FrontParts → List ℕ → Result (Step FrontParts CaptureParts) CaptureKind
    → Type 0
IsEnded b body (Ok (Next next)) = ⊥
IsEnded b body (Ok (Last c)) =
    (body ≡ []) × ((0 < length b.opening.setup.device.outputs)
    × ((c ≡ capture_of b.opening b.items c.ticks)
    × AreTicks (length b.opening.setup.device.outputs) b.items c.ticks))
IsEnded b body (Err kind) =
    ((kind ≡ Body) × (body ≡ [] → ⊥))
    ⊎ ((kind ≡ Work) × ((body ≡ [])
    × ((ticks : ℕ) → AreTicks (length b.opening.setup.device.outputs) b.items ticks → ⊥)))

-- what a record of this sort does to what stands before it, or its fault
abbrev pub IsLater : RecordKind → FrontParts → ℕ → List ℕ
    → Result (Step FrontParts CaptureParts) CaptureKind → Type 0
IsLater (NoRecord kind) b tag body judged = judged ≡ Err kind
IsLater ItemRecord b tag body judged = IsTaken b tag body judged
IsLater EndRecord b tag body judged = IsEnded b body judged

-- what a record after the device does to what stands before it, or its fault, at any place
abbrev pub Judges : FrontParts → ℕ → ℕ → List ℕ → Result (Step FrontParts CaptureParts) CaptureKind
    → Type 0
Judges b at tag body judged = IsLater (sort_of b.opening.format tag) b tag body judged

-- ---- the first fault

-- the bytes do not begin with the magic of a format
abbrev pub HasNoMagic : List ℕ → Type 0
HasNoMagic bytes = (format : Format) (rest : List ℕ) → bytes ≡ capture_magic format ++ rest → ⊥

-- the record that stands there opens nothing, by this fault
pub record OpensNothing (format : Format) (bytes : List ℕ) (kind : CaptureKind) : Type 0 where
  pub of : ℕ × List ℕ
  pub rest : List ℕ
  pub stands : Stands bytes of rest
  pub judged : IsFirst (device_form format of.0) of.1 (Err kind)

-- the magic, and after it no whole record, or one that opens nothing
pub record HasNoDevice (bytes : List ℕ) (at : ℕ) (kind : CaptureKind) : Type 0 where
  pub format : Format
  pub behind : List ℕ
  pub parts : bytes ≡ capture_magic format ++ behind
  pub place : at + length behind ≡ length bytes
  pub faulty : (IsCut behind × (kind ≡ Cut)) ⊎ OpensNothing format behind kind

-- the record of a grain that stands there says none
pub record SaysNoGrain (bytes : List ℕ) : Type 0 where
  pub body : List ℕ
  pub rest : List ℕ
  pub stands : Stands bytes (grain_tag, body) rest
  pub none : (grain : Grain) → body ≡ grain_body grain → ⊥

-- the magic of format 2 and a record of a device, and after these, at this place, a record of a
-- grain that says none
pub record HasBadGrain (bytes : List ℕ) (at : ℕ) (kind : CaptureKind) : Type 0 where
  pub setup : SetupParts
  pub behind : List ℕ
  pub begins : Begins bytes Two setup behind
  pub place : at + length behind ≡ length bytes
  pub faulty : SaysNoGrain behind
  pub is : kind ≡ Body

-- an opening, and good records; and after these, at this place, no whole record, or one with this
-- fault
pub record StopsAt (bytes : List ℕ) (at : ℕ) (kind : CaptureKind) : Type 0 where
  pub opening : Opening
  pub items : List Item
  pub behind : List ℕ
  pub opens : Opens bytes opening (flat_map item.text items ++ behind)
  pub good : AreItems (length opening.setup.device.inputs) items
  pub place : at + length behind ≡ length bytes
  pub faulty : IsFaulty Judges Cut (before opening items) at behind kind

-- The first fault of bytes and its place: they do not begin with a magic; or what follows it is no
-- device record; or what follows that is a record that says no grain; or what follows these and
-- good records is faulty.
abbrev pub FaultIs : List ℕ → ℕ → CaptureKind → Type 0
FaultIs bytes at kind =
    (HasNoMagic bytes × ((at ≡ 0) × (kind ≡ Magic)))
    ⊎ (HasNoDevice bytes at kind ⊎ (HasBadGrain bytes at kind ⊎ StopsAt bytes at kind))

-- this fault at this place, unless memory ran out
abbrev pub IsRefusal : {T : Type 0} → Result T (Or CaptureFault) → ℕ → CaptureKind → Type 0
IsRefusal (Ok x) at kind = ⊥
IsRefusal (Err e) at kind = IfFault e (λ f. (f.at ≡ at) × (f.kind ≡ kind))
