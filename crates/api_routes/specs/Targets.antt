-- What a path leads to on a device: the resource, with what it names of inputs, outputs and
-- activations. (This project's own.)
use Rattle.std.specs.Prelude.{ℕ, ◌-◌, ◌^◌, ◌==◌, ◌&&◌, nat_lt, List, length, take, drop}
use Rattle.std.specs.Prelude.{slice_index, Bool, Option, Some, None, option_map, option_and_then}
use Rattle.std.specs.Prelude.{if◌then◌else◌, codes}
use Rattle.std.specs.List.{before_first}
use Rattle.std.specs.Str.{is_utf8}
use Rattle.io_caps.specs.declared.device.DeviceParts.{DeviceParts}
use Rattle.channel_json.specs.declared.resource.Resource.{Resource}
use Rattle.channel_json.specs.declared.resource.Resource.TheVariants as fixed
use Rattle.channel_json.specs.Requests.{input_number, output_number, number_in}
use Rattle.channel_json.specs.Resources.{IsThere}
use Rattle.api_routes.specs.declared.routes.Route.{Route}
use Rattle.api_routes.specs.declared.routes.Route.TheVariants.{Slash, Nmos, Mapping, Version}
use Rattle.api_routes.specs.declared.routes.Route.TheVariants.{Inputs, Outputs, OfInput, OfOutput}
use Rattle.api_routes.specs.declared.routes.Route.TheVariants.{Map, Activations, Activation, Active}
use Rattle.api_routes.specs.declared.routes.Route.TheVariants.{ActiveOutput, Io}
use Rattle.api_routes.specs.declared.routes.InputPart.{InputPart}
use Rattle.api_routes.specs.declared.routes.InputPart.TheVariants as input
use Rattle.api_routes.specs.declared.routes.OutputPart.{OutputPart}
use Rattle.api_routes.specs.declared.routes.OutputPart.TheVariants as output
use Rattle.api_routes.specs.declared.targets.Target.{Target}
use Rattle.api_routes.specs.declared.targets.Target.TheVariants.{Fixed, AllPending, OnePending}
use Rattle.api_routes.specs.declared.targets.Target.TheVariants.{Rows}
use Rattle.api_routes.specs.Match.{hit}
use Rattle.api_routes.specs.Paths.{resources, under}

-- ---- paths

-- the path without one trailing slash, unless it is a slash alone
abbrev pub cut_path : List ℕ → List ℕ
cut_path path =
    if nat_lt 1 (length path) && (slice_index path (length path - 1) == 47)
    then take (length path - 1) path else path

-- the resource of a path so cut. Paths are UTF-8.
abbrev pub route_of : List ℕ → Option Route
route_of path = if is_utf8 path then hit resources path else None

-- whether a byte is a slash
abbrev pub is_slash : ℕ → Bool
is_slash b = b == 47

-- what follows a beginning of the path, up to the next slash
abbrev pub part_behind : List ℕ → List ℕ → List ℕ
part_behind front path = before_first is_slash (drop (length front) path)

-- ---- what a path names

-- the input whose id follows `/inputs/`
abbrev pub named_input : DeviceParts → List ℕ → Option ℕ
named_input device path = input_number device (part_behind (under (codes "/inputs/")) path)

-- the output whose id follows `/outputs/`
abbrev pub named_output : DeviceParts → List ℕ → Option ℕ
named_output device path = output_number device (part_behind (under (codes "/outputs/")) path)

-- the output whose id follows `/map/active/`
abbrev pub named_row : DeviceParts → List ℕ → Option ℕ
named_row device path = output_number device (part_behind (under (codes "/map/active/")) path)

-- a number that is not 0
abbrev pub unless_zero : ℕ → Option ℕ
unless_zero n = if n == 0 then None else Some n

-- an activation's id: one to twenty digits of which the first is not 0, below 2^64
abbrev pub id_in : List ℕ → Option ℕ
id_in text = option_and_then unless_zero (number_in (2 ^ 64 - 1) text)

-- the activation whose id follows `/map/activations/`
abbrev pub named_activation : List ℕ → Option ℕ
named_activation path = id_in (part_behind (under (codes "/map/activations/")) path)

-- a resource of the input of a number
abbrev pub input_resource : InputPart → ℕ → Resource
input_resource input.Names number = fixed.Input
input_resource input.Properties number = fixed.InputProperties number
input_resource input.Parent number = fixed.Parent number
input_resource input.Channels number = fixed.InputChannels number
input_resource input.Caps number = fixed.InputCaps number

-- a resource of the output of a number
abbrev pub output_resource : OutputPart → ℕ → Resource
output_resource output.Names number = fixed.Output
output_resource output.Properties number = fixed.OutputProperties number
output_resource output.SourceId number = fixed.SourceId number
output_resource output.Channels number = fixed.OutputChannels number
output_resource output.Caps number = fixed.OutputCaps number

-- what a resource's path leads to, or none where what it names is not there
abbrev pub target_of : DeviceParts → Route → List ℕ → Option Target
target_of device Slash path = Some (Fixed fixed.Slash)
target_of device Nmos path = Some (Fixed fixed.Nmos)
target_of device Mapping path = Some (Fixed fixed.Mapping)
target_of device Version path = Some (Fixed fixed.Version)
target_of device Inputs path = Some (Fixed fixed.Inputs)
target_of device Outputs path = Some (Fixed fixed.Outputs)
target_of device (OfInput part) path =
    option_map (λ number. Fixed (input_resource part number)) (named_input device path)
target_of device (OfOutput part) path =
    option_map (λ number. Fixed (output_resource part number)) (named_output device path)
target_of device Map path = Some (Fixed fixed.Map)
target_of device Activations path = Some AllPending
target_of device Activation path = option_map OnePending (named_activation path)
target_of device Active path = Some (Rows None)
target_of device ActiveOutput path =
    option_map (λ output. Rows (Some output)) (named_row device path)
target_of device Io path = Some (Fixed fixed.Io)

-- the input or output of a fixed resource is there
abbrev pub IsTargetThere : DeviceParts → Target → Type 0
IsTargetThere device (Fixed resource) = IsThere device resource
IsTargetThere device target = Unit {0}
