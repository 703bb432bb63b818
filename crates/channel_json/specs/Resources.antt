-- The fixed resources as JSON, by the names that AMWA IS-08 v1.0 gives them.
use Rattle.std.specs.Prelude.{ℕ, ◌<◌, List, [], ◌∷◌, ◌++◌, length, map, Option, Some, None}
use Rattle.std.specs.Prelude.{slice_get, codes}
use Rattle.std.specs.Option.{option_map_or}
use Rattle.serde_json.specs.Data.{Data, null, boolean, number, unsigned, string, object, no_members}
use Rattle.serde_json.specs.Data.{member}
use Rattle.serde_json.specs.Written.{compact_text}
use Rattle.io_caps.specs.declared.device.DeviceParts.{DeviceParts}
use Rattle.io_caps.specs.declared.port.Input.{Input}
use Rattle.io_caps.specs.declared.port.Output.{Output}
use Rattle.io_caps.specs.declared.port.Parent.{Parent}
use Rattle.io_caps.specs.declared.port.Parent.TheVariants.{Nobody, Source, Receiver}
use Rattle.io_caps.specs.declared.port.Routable.{Routable}
use Rattle.io_caps.specs.declared.port.Routable.TheVariants.{All as Anything, Only}
use Rattle.channel_json.specs.declared.resource.Resource.{Resource}
use Rattle.channel_json.specs.declared.resource.Resource.TheVariants.{Slash, Nmos, Mapping, Version}
use Rattle.channel_json.specs.declared.resource.Resource.TheVariants.{Inputs, Outputs}
use Rattle.channel_json.specs.declared.resource.Resource.TheVariants.{Input as OneInput}
use Rattle.channel_json.specs.declared.resource.Resource.TheVariants.{Output as OneOutput}
use Rattle.channel_json.specs.declared.resource.Resource.TheVariants.{InputProperties}
use Rattle.channel_json.specs.declared.resource.Resource.TheVariants.{OutputProperties}
use Rattle.channel_json.specs.declared.resource.Resource.TheVariants.{Parent as ParentOf}
use Rattle.channel_json.specs.declared.resource.Resource.TheVariants.{InputChannels, OutputChannels}
use Rattle.channel_json.specs.declared.resource.Resource.TheVariants.{InputCaps, SourceId}
use Rattle.channel_json.specs.declared.resource.Resource.TheVariants.{OutputCaps, Map, Io}
use Rattle.channel_json.specs.Values.{array_of, object_of, text_data}
use Rattle.channel_json.specs.Uuids.{uuid_text}
use Rattle.channel_json.specs.Cells.{input_id}

-- ---- parts of an input or an output

-- a name and a description
abbrev pub properties_data : List ℕ → List ℕ → Data
properties_data name description =
    object (member (codes "description") (text_data description)
    (member (codes "name") (text_data name) no_members))

-- the id of a source or a receiver, and which of the two it is
abbrev pub fed_data : Data → Data → Data
fed_data id type = object (member (codes "id") id (member (codes "type") type no_members))

-- what an input is fed from: nulls where that is not known
abbrev pub parent_data : Parent → Data
parent_data Nobody = fed_data null null
parent_data (Source id) = fed_data (string (uuid_text id)) (string (codes "source"))
parent_data (Receiver id) = fed_data (string (uuid_text id)) (string (codes "receiver"))

-- a channel's label
abbrev pub label_data : List ℕ → Data
label_data label = object (member (codes "label") (text_data label) no_members)

-- the channels, each with its label
abbrev pub channels_data : List (List ℕ) → Data
channels_data labels = array_of (map label_data labels)

-- how the channels of an input are routed together
abbrev pub input_caps_data : Input → Data
input_caps_data i =
    object (member (codes "block_size") (number (unsigned i.block_size))
    (member (codes "reordering") (boolean i.reordering) no_members))

-- the source that an output feeds: null where there is none
abbrev pub source_data : Option ℕ → Data
source_data None = null
source_data (Some id) = string (uuid_text id)

-- a choice of what may be routed: an input's id, or null where a channel may be unrouted
abbrev pub choice_data : DeviceParts → Option ℕ → Data
choice_data device None = null
choice_data device (Some input) = string (input_id device input)

-- what may be routed: null where anything may
abbrev pub routable_data : DeviceParts → Routable → Data
routable_data device Anything = null
routable_data device (Only choices) = array_of (map (choice_data device) choices)

-- what may be routed to an output
abbrev pub output_caps_data : DeviceParts → Output → Data
output_caps_data device o =
    object (member (codes "routable_inputs") (routable_data device o.routable) no_members)

-- ---- all of an input or an output, each part as in its own resource

-- all of an input
abbrev pub input_data : Input → Data
input_data i =
    object
    (member (codes "caps") (input_caps_data i)
    (member (codes "channels") (channels_data i.labels)
    (member (codes "parent") (parent_data i.parent)
    (member (codes "properties") (properties_data i.name i.description) no_members))))

-- all of an output
abbrev pub output_data : DeviceParts → Output → Data
output_data device o =
    object
    (member (codes "caps") (output_caps_data device o)
    (member (codes "channels") (channels_data o.labels)
    (member (codes "properties") (properties_data o.name o.description)
    (member (codes "source_id") (source_data o.source_id) no_members))))

-- the inputs and the outputs, each under its id
abbrev pub io_data : DeviceParts → Data
io_data device =
    object
    (member (codes "inputs") (object_of (map (λ i. (i.id, input_data i)) device.inputs))
    (member (codes "outputs")
    (object_of (map (λ o. (o.id, output_data device o)) device.outputs)) no_members))

-- ---- resources

-- the name of a resource below one, followed by a slash
abbrev pub name_data : List ℕ → Data
name_data name = string (name ++ codes "/")

-- such names
abbrev pub names_data : List (List ℕ) → Data
names_data names = array_of (map name_data names)

-- a part of an input: null where that is not there
abbrev pub of_input : (Input → Data) → DeviceParts → ℕ → Data
of_input part device input = option_map_or part (slice_get device.inputs input) null

-- a part of an output: null where that is not there
abbrev pub of_output : (Output → Data) → DeviceParts → ℕ → Data
of_output part device output = option_map_or part (slice_get device.outputs output) null

-- what a resource says
abbrev pub resource_data : DeviceParts → Resource → Data
resource_data device Slash = names_data (codes "x-nmos" ∷ [])
resource_data device Nmos = names_data (codes "channelmapping" ∷ [])
resource_data device Mapping = names_data (codes "v1.0" ∷ [])
resource_data device Version =
    names_data (codes "inputs" ∷ codes "outputs" ∷ codes "map" ∷ codes "io" ∷ [])
resource_data device Inputs = array_of (map (λ i. name_data i.id) device.inputs)
resource_data device Outputs = array_of (map (λ o. name_data o.id) device.outputs)
resource_data device OneInput =
    names_data (codes "properties" ∷ codes "parent" ∷ codes "channels" ∷ codes "caps" ∷ [])
resource_data device OneOutput =
    names_data (codes "properties" ∷ codes "sourceid" ∷ codes "channels" ∷ codes "caps" ∷ [])
resource_data device (InputProperties input) =
    of_input (λ i. properties_data i.name i.description) device input
resource_data device (OutputProperties output) =
    of_output (λ o. properties_data o.name o.description) device output
resource_data device (ParentOf input) = of_input (λ i. parent_data i.parent) device input
resource_data device (InputChannels input) = of_input (λ i. channels_data i.labels) device input
resource_data device (OutputChannels output) = of_output (λ o. channels_data o.labels) device output
resource_data device (InputCaps input) = of_input input_caps_data device input
resource_data device (SourceId output) = of_output (λ o. source_data o.source_id) device output
resource_data device (OutputCaps output) = of_output (output_caps_data device) device output
resource_data device Map = names_data (codes "activations" ∷ codes "active" ∷ [])
resource_data device Io = io_data device

-- the input or output that a resource tells of is there
abbrev pub IsThere : DeviceParts → Resource → Type 0
IsThere device (InputProperties input) = input < length device.inputs
IsThere device (OutputProperties output) = output < length device.outputs
IsThere device (ParentOf input) = input < length device.inputs
IsThere device (InputChannels input) = input < length device.inputs
IsThere device (OutputChannels output) = output < length device.outputs
IsThere device (InputCaps input) = input < length device.inputs
IsThere device (SourceId output) = output < length device.outputs
IsThere device (OutputCaps output) = output < length device.outputs
IsThere device resource = Unit {0}

-- its text
abbrev pub resource_text : DeviceParts → Resource → List ℕ
resource_text device resource = compact_text (resource_data device resource)
