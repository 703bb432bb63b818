-- What a capture is, and which bytes are its text. (This project's own.)
use Rattle.std.specs.Prelude.{◌≡◌, ℕ, ◌+◌, ◌*◌, ◌≤◌, List, [], ◌++◌, length, take, All, Result, Ok}
use Rattle.std.specs.Prelude.{Err, ◌⊎◌}
use Rattle.std.specs.List.{flat_map, sum_by}
use Rattle.io_caps.specs.declared.limits.TheConstants.{CAPTURE_TICKS}
use Rattle.io_caps.specs.declared.memory.Or.{Or}
use Rattle.map_entry.specs.Setup.{SetupParts, IsSetup, setup_of}
use Rattle.map_entry.specs.declared.grain.Grain.{Grain}
use Rattle.map_entry.specs.declared.grain.Grain.TheVariants.{Tick}
use Rattle.exact_text.specs.Forms.{IsSpelled}
use Rattle.channel_json.specs.Devices.{Says}
use Rattle.capture_file.specs.declared.fault.CaptureFault.{CaptureFault}
use Rattle.capture_file.specs.declared.items.Item.{Item}
use Rattle.capture_file.specs.declared.opening.Opening.{Opening}
use Rattle.capture_file.specs.declared.before.DeviceForm.{DeviceForm}
use Rattle.capture_file.specs.declared.before.DeviceForm.TheVariants.{Plain, Json}
use Rattle.capture_file.specs.declared.format.Format.{Format}
use Rattle.capture_file.specs.declared.format.Format.TheVariants.{One, Two}
use Rattle.capture_file.specs.Tags.{device_tag, json_device_tag, grain_tag}
use Rattle.capture_file.specs.Formats.{AllowsGrain, capture_magic, grain_text}
use Rattle.capture_file.specs.Device.{device}
use Rattle.capture_file.specs.Items.{item, end_text, claims_of, IsItemThere}
use Rattle.capture_file.specs.Walk.{IsRecord, text_of, Stands, IfFault}

-- a capture, as contracts see it; its records after the device and the grain begin at a place
pub record CaptureParts : Type 0 where
  pub format : Format
  pub setup : SetupParts
  pub items_at : ℕ
  pub items : List Item
  pub ticks : ℕ

-- what stands in front of a capture's records: its format and setup, and the place behind these
abbrev pub opening_of : Format → SetupParts → ℕ → Opening
opening_of format setup items_at =
    record { format = format; setup = setup; items_at = items_at }

-- a capture by what stands in front of its records, and these
abbrev pub capture_of : Opening → List Item → ℕ → CaptureParts
capture_of o items ticks = record {
  format = o.format;
  setup = o.setup;
  items_at = o.items_at;
  items = items;
  ticks = ticks;
}

-- a given number of ticks are those of the claims, with a given number of outputs
abbrev pub AreTicks : ℕ → List Item → ℕ → Type 0
AreTicks outputs items ticks = (sum_by claims_of items ≡ ticks * outputs) × (ticks ≤ CAPTURE_TICKS)

-- The device and its base rows are in order, the format can say the grain, the claims are those of
-- whole ticks, of which there are not too many, and the records name inputs and clients that are
-- there.
pub record IsCapture (c : CaptureParts) : Type 0 where
  pub setup : IsSetup c.setup
  pub grain : AllowsGrain c.format c.setup.grain
  pub work : sum_by claims_of c.items ≡ c.ticks * length c.setup.device.outputs
  pub few : c.ticks ≤ CAPTURE_TICKS
  pub there : All (IsItemThere (length c.setup.device.inputs)) c.items

-- ---- texts

-- the tag of a device in a form
abbrev pub form_tag : DeviceForm → ℕ
form_tag Plain = device_tag
form_tag Json = json_device_tag

-- The body says this device with its base rows in a form: it spells them, or it is a JSON text that
-- says them. It says no grain, which is then the tick.
abbrev pub SaysBase : DeviceForm → List ℕ → SetupParts → Type 0
SaysBase Plain body setup =
    IsSpelled device body (setup.device, setup.rows) × (setup.grain ≡ Tick)
SaysBase Json body setup = Says body setup

-- the body says this device with its base rows in a form, and they are in order
abbrev pub IsBase : DeviceForm → List ℕ → SetupParts → Type 0
IsBase form body setup = IsSetup setup × SaysBase form body setup

-- a record of this device, in one of the forms. As JSON a device has many texts.
pub record IsDeviceRecord (setup : SetupParts) (r : ℕ × List ℕ) : Type 0 where
  pub fits : IsRecord r
  pub form : DeviceForm
  pub tag : r.0 ≡ form_tag form
  pub base : IsBase form r.1 setup

-- the bytes begin with the magic of a format and a record of this device, after which these stand
pub record Begins (bytes : List ℕ) (format : Format) (setup : SetupParts)
    (behind : List ℕ) : Type 0 where
  pub of : ℕ × List ℕ
  pub device : IsDeviceRecord setup of
  pub parts : bytes ≡ capture_magic format ++ (text_of of ++ behind)

-- no record of a grain stands there
abbrev pub HasNoGrain : List ℕ → Type 0
HasNoGrain bytes =
    (r : ℕ × List ℕ) (rest : List ℕ) → Stands bytes r rest → r.0 ≡ grain_tag → ⊥

-- What follows a device begins with what says its grain, after which these stand: in format 1
-- nothing; in format 2 a record of it, or nothing where no such record stands there. Nothing says
-- that changes count from ticks.
abbrev pub SaysGrain : Format → List ℕ → Grain → List ℕ → Type 0
SaysGrain One bytes grain behind = (grain ≡ Tick) × (bytes ≡ behind)
SaysGrain Two bytes grain behind =
    (bytes ≡ grain_text grain ++ behind)
    ⊎ ((grain ≡ Tick) × ((bytes ≡ behind) × HasNoGrain behind))

-- the bytes begin with the magic of this format, a record of this device, and what says this grain;
-- after these, from this place on, stand these bytes
pub record Opens (bytes : List ℕ) (o : Opening) (behind : List ℕ) : Type 0 where
  pub after : List ℕ
  pub begins : Begins bytes o.format (setup_of o.setup.device o.setup.rows) after
  pub grain : SaysGrain o.format after o.setup.grain behind
  pub place : o.items_at + length behind ≡ length bytes

-- records after the device of a given number of inputs: they name what is there, and their numbers
-- are in the range of their fields
pub record AreItems (inputs : ℕ) (items : List Item) : Type 0 where
  pub there : All (IsItemThere inputs) items
  pub fit : All item.Fits items

-- These bytes are a text of this capture: the magic, a record of its device, and what says its
-- grain; its other records in order, and the last record.
pub record IsCaptureText (c : CaptureParts) (text : List ℕ) : Type 0 where
  pub opens : Opens text (opening_of c.format c.setup c.items_at)
      (flat_map item.text c.items ++ end_text)
  pub items : AreItems (length c.setup.device.inputs) c.items
  pub work : AreTicks (length c.setup.device.outputs) c.items c.ticks

-- The bytes begin with a text of this capture, which ends at this place.
pub record IsCaptureAt (bytes : List ℕ) (c : CaptureParts) (at : ℕ) : Type 0 where
  pub within : at ≤ length bytes
  pub text : IsCaptureText c (take at bytes)

-- ---- what is written

-- what stands in front of a capture's records: the magic, the record of its device, and what says
-- its grain
abbrev pub front_text : Format → ℕ × List ℕ → List ℕ → List ℕ
front_text format device grain = capture_magic format ++ (text_of device ++ grain)

-- these bytes say a grain after a device, in front of records of other kinds: in format 1 there are
-- none; in format 2 they are its record, or none, which say that changes count from ticks
abbrev pub IsGrainText : Format → Grain → List ℕ → Type 0
IsGrainText One grain text = (grain ≡ Tick) × (text ≡ [])
IsGrainText Two grain text = (text ≡ grain_text grain) ⊎ ((grain ≡ Tick) × (text ≡ []))

-- ---- answers

-- this capture up to this place, unless memory ran out
abbrev pub IsAnswer : Result (CaptureParts × ℕ) (Or CaptureFault) → CaptureParts → ℕ → Type 0
IsAnswer (Ok x) capture at = (x.0 ≡ capture) × (x.1 ≡ at)
IsAnswer (Err e) capture at = IfFault e (λ f. ⊥)
