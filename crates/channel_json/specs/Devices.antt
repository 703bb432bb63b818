-- A device as JSON. (This project's own, with the names of AMWA IS-08 v1.0 and IS-04.)
use Rattle.std.specs.Prelude.{◌≡◌, ℕ, ◌-◌, ◌^◌, ◌==◌, List, [], true, length, map, min, replicate}
use Rattle.std.specs.Prelude.{Option, Some, None, option_map, option_and_then, Result, Ok, Err}
use Rattle.std.specs.Prelude.{if◌then◌else◌, codes}
use Rattle.std.specs.List.{position}
use Rattle.std.specs.Str.{bytes_eq}
use Rattle.serde_json.specs.Data.{Data}
use Rattle.serde_json.specs.Find.{get, as_bool, as_str, as_array}
use Rattle.io_caps.specs.declared.memory.Or.{Or}
use Rattle.io_caps.specs.declared.memory.Or.TheVariants.{Fault, NoMemory}
use Rattle.io_caps.specs.declared.rate.Rate.{Rate}
use Rattle.io_caps.specs.declared.rate.Width.{Width}
use Rattle.io_caps.specs.declared.rate.Width.TheVariants.{L16, L24}
use Rattle.io_caps.specs.declared.port.Input.{Input}
use Rattle.io_caps.specs.declared.port.Output.{Output}
use Rattle.io_caps.specs.declared.port.Parent.{Parent}
use Rattle.io_caps.specs.declared.port.Parent.TheVariants.{Nobody, Source, Receiver}
use Rattle.io_caps.specs.declared.port.Routable.{Routable}
use Rattle.io_caps.specs.declared.port.Routable.TheVariants.{All as Anything, Only}
use Rattle.io_caps.specs.Device.{IsDevice}
use Rattle.io_caps.specs.Fault.{IsFirstFault}
use Rattle.map_entry.specs.declared.cell.Cell.{Cell}
use Rattle.map_entry.specs.declared.cell.Cell.TheVariants.{Unrouted, From}
use Rattle.map_entry.specs.Setup.{SetupParts, setup_of, IsSetup, IsBrokenBy}
use Rattle.channel_json.specs.declared.faults.DeviceJsonFault.{DeviceJsonFault}
use Rattle.channel_json.specs.declared.faults.DeviceJsonFault.TheVariants.{NotJson, Shape, Device}
use Rattle.channel_json.specs.declared.faults.DeviceJsonFault.TheVariants.{Rows}
use Rattle.channel_json.specs.declared.devices.Target.{Target}
use Rattle.channel_json.specs.Values.{document}
use Rattle.channel_json.specs.Fields.{◌>>=◌, whole_in, whole_at, text_at, list_at, is_null}
use Rattle.channel_json.specs.Fields.{if_there, each_in}
use Rattle.channel_json.specs.Uuids.{uuid_of}

-- ---- parts of an input or an output

-- a channel: an object with its label
abbrev pub label_in : Data → Option (List ℕ)
label_in d = text_at (codes "label") d

-- the channels, each by its label
abbrev pub labels_at : Data → Option (List (List ℕ))
labels_at d = option_and_then (each_in label_in) (list_at (codes "channels") d)

-- how many bits a sample has
abbrev pub width_of_bits : ℕ → Option Width
width_of_bits bits = if bits == 16 then Some L16 else if bits == 24 then Some L24 else None

-- the width under its key
abbrev pub width_at : Data → Option Width
width_at d = option_and_then width_of_bits (whole_at 255 (codes "width") d)

-- the name, where there is none the id
abbrev pub name_at : List ℕ → Data → Option (List ℕ)
name_at id d = if_there id as_str (get (codes "name") d)

-- the description, where there is none the empty text
abbrev pub description_at : Data → Option (List ℕ)
description_at d = if_there [] as_str (get (codes "description") d)

-- a UUID
abbrev pub uuid_in : Data → Option ℕ
uuid_in d = option_and_then uuid_of (as_str d)

-- what an input is fed from, by the word for it and its UUID
abbrev pub parent_of : List ℕ → ℕ → Option Parent
parent_of kind id =
    if bytes_eq kind (codes "source") then Some (Source id)
    else if bytes_eq kind (codes "receiver") then Some (Receiver id)
    else None

-- what an input is fed from: null, or an object with a word and a UUID
abbrev pub parent_in : Data → Option Parent
parent_in d =
    if is_null d then Some Nobody else do
      kind ← text_at (codes "type") d
      id ← option_and_then uuid_in (get (codes "id") d)
      parent_of kind id

-- the source that an output feeds: null, or a UUID
abbrev pub source_in : Data → Option (Option ℕ)
source_in d = if is_null d then Some None else option_map Some (uuid_in d)

-- ---- inputs

-- an input
unfoldable pub input_in : Data → Option Input
input_in d = do
  id ← text_at (codes "id") d
  labels ← labels_at d
  width ← width_at d
  payload_type ← whole_at 255 (codes "payload_type") d
  name ← name_at id d
  description ← description_at d
  block_size ← if_there 1 (whole_in 255) (get (codes "block_size") d)
  reordering ← if_there true as_bool (get (codes "reordering") d)
  parent ← if_there Nobody parent_in (get (codes "parent") d)
  Some (record {
    id = id;
    name = name;
    description = description;
    labels = labels;
    width = width;
    payload_type = payload_type;
    block_size = block_size;
    reordering = reordering;
    parent = parent;
  })

-- ---- outputs, which name inputs by their ids

-- The number of the input of an id. Numbers end at 255: a device with as many inputs is refused for
-- that, whatever it names.
abbrev pub input_place : List Input → List ℕ → Option ℕ
input_place inputs id = option_map (min 255) (position (λ i. bytes_eq i.id id) inputs)

-- a choice of what may be routed: null, or an input's id
abbrev pub choice_in : List Input → Data → Option (Option ℕ)
choice_in inputs d =
    if is_null d then Some None
    else option_map Some (option_and_then (input_place inputs) (as_str d))

-- what may be routed: null for anything, or a list of choices
abbrev pub routable_in : List Input → Data → Option Routable
routable_in inputs d =
    if is_null d then Some Anything
    else option_map Only (option_and_then (each_in (choice_in inputs)) (as_array d))

-- a channel's cell: null, or an object with an input's id and a channel's number
abbrev pub cell_in : List Input → Data → Option Cell
cell_in inputs d =
    if is_null d then Some Unrouted else do
      input ← option_and_then (input_place inputs) (text_at (codes "input") d)
      channel ← whole_at 255 (codes "channel_index") d
      Some (From input channel)

-- a row: a list of cells
abbrev pub row_in : List Input → Data → Option (List Cell)
row_in inputs d = option_and_then (each_in (cell_in inputs)) (as_array d)

-- an output with its base row; where there is no row, each channel is unrouted
unfoldable pub target_in : List Input → Data → Option Target
target_in inputs d = do
  id ← text_at (codes "id") d
  labels ← labels_at d
  width ← width_at d
  payload_type ← whole_at 255 (codes "payload_type") d
  ssrc ← whole_at (2 ^ 32 - 1) (codes "ssrc") d
  name ← name_at id d
  description ← description_at d
  source_id ← if_there None source_in (get (codes "source_id") d)
  routable ← if_there Anything (routable_in inputs) (get (codes "routable_inputs") d)
  row ← if_there (replicate (length labels) Unrouted) (row_in inputs) (get (codes "map") d)
  Some (record {
    output = record {
      id = id;
      name = name;
      description = description;
      labels = labels;
      width = width;
      payload_type = payload_type;
      ssrc = ssrc;
      source_id = source_id;
      routable = routable;
    };
    row = row;
  })

-- ---- the device

-- outputs that were read with their base rows
abbrev pub outputs_of : List Target → List Output
outputs_of targets = map (λ t. t.output) targets

-- the base rows of outputs that were read with them
abbrev pub rows_of : List Target → List (List Cell)
rows_of targets = map (λ t. t.row) targets

-- how it is sampled
unfoldable pub rate_in : Data → Option Rate
rate_in d = do
  hz ← whole_at (2 ^ 32 - 1) (codes "rate") d
  frames ← whole_at (2 ^ 16 - 1) (codes "frames") d
  Some (record { hz = hz; frames = frames })

-- the first tick, 0 where it is not told
abbrev pub base_at : Data → Option ℕ
base_at d = if_there 0 (whole_in (2 ^ 64 - 1)) (get (codes "base") d)

-- for how many ticks an input waits for late packets, 0 where it is not told
abbrev pub hold_at : Data → Option ℕ
hold_at d = if_there 0 (whole_in 255) (get (codes "hold") d)

-- the inputs
abbrev pub inputs_at : Data → Option (List Input)
inputs_at d = option_and_then (each_in input_in) (list_at (codes "inputs") d)

-- the outputs with their base rows, which may name these inputs
abbrev pub targets_at : List Input → Data → Option (List Target)
targets_at inputs d = option_and_then (each_in (target_in inputs)) (list_at (codes "outputs") d)

-- a device with its base rows, which need not be within the limits. Other keys are not looked at.
unfoldable pub setup_in : Data → Option SetupParts
setup_in d = do
  rate ← rate_in d
  base ← base_at d
  hold ← hold_at d
  inputs ← inputs_at d
  targets ← targets_at inputs d
  Some (setup_of
      (record {
        rate = rate;
        base = base;
        hold = hold;
        inputs = inputs;
        outputs = outputs_of targets;
      })
      (rows_of targets))

-- the text says this device with these base rows
abbrev pub Says : List ℕ → SetupParts → Type 0
Says text setup = (document text >>= setup_in) ≡ Some setup

-- what a device and its base rows are built to: the first limit that the device breaks; or what of
-- the rows does not fit it; or both, as they are
abbrev pub BuildsSetup : SetupParts → Result SetupParts (Or DeviceJsonFault) → Type 0
BuildsSetup said (Ok setup) = (said ≡ setup) × IsSetup said
BuildsSetup said (Err NoMemory) = Unit {0}
BuildsSetup said (Err (Fault NotJson)) = ⊥
BuildsSetup said (Err (Fault Shape)) = ⊥
BuildsSetup said (Err (Fault (Device fault))) = IsFirstFault said.device fault
BuildsSetup said (Err (Fault (Rows fault))) = IsDevice said.device × IsBrokenBy said fault

-- What a text is read as. It is no JSON value; or it is one that says no device; or the device that
-- it says breaks a limit, and this is the first; or it is within the limits, and its base rows do
-- not fit it; or the setup is what the text says, and is in order. Running out of memory says
-- nothing of the text.
abbrev pub ReadsDevice : List ℕ → Result SetupParts (Or DeviceJsonFault) → Type 0
ReadsDevice text (Ok setup) = Says text setup × IsSetup setup
ReadsDevice text (Err NoMemory) = Unit {0}
ReadsDevice text (Err (Fault NotJson)) = document text ≡ None
ReadsDevice text (Err (Fault Shape)) = (d : Data) × (document text ≡ Some d) × (setup_in d ≡ None)
ReadsDevice text (Err (Fault (Device fault))) =
    (setup : SetupParts) × Says text setup × IsFirstFault setup.device fault
ReadsDevice text (Err (Fault (Rows fault))) =
    (setup : SetupParts) × Says text setup × IsDevice setup.device × IsBrokenBy setup fault
