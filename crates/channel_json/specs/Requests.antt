-- The body of an activation. (AMWA IS-08 v1.0: what is posted to `/map/activations`. The order of
-- the faults is this project's own.)
use Rattle.std.specs.Prelude.{◌≡◌, ℕ, ◌&&◌, not, nat_lt, Bool, List, length, Option, Some, None}
use Rattle.std.specs.Prelude.{option_map, option_and_then, is_some, Result, Ok, Err, if◌then◌else◌}
use Rattle.std.specs.Prelude.{codes, decimal}
use Rattle.std.specs.List.{position, list_all, list_any}
use Rattle.std.specs.Option.{option_or}
use Rattle.std.specs.Result.{result_ok}
use Rattle.std.specs.Char.{digit_value}
use Rattle.std.specs.Str.{bytes_eq}
use Rattle.std.specs.Str.Parse.{digits_value}
use Rattle.serde_json.specs.Data.{Data, Members, no_members, member}
use Rattle.serde_json.specs.Find.{get, as_object}
use Rattle.io_caps.specs.declared.memory.Or.{Or}
use Rattle.io_caps.specs.declared.memory.Or.TheVariants.{Fault, NoMemory}
use Rattle.io_caps.specs.declared.device.DeviceParts.{DeviceParts}
use Rattle.tai_time.specs.Time.{TaiTime, is_colon, secs_part, nanos_part, secs_limit, second}
use Rattle.map_entry.specs.declared.cell.Cell.{Cell}
use Rattle.map_entry.specs.declared.cell.Cell.TheVariants.{Unrouted, From}
use Rattle.map_entry.specs.declared.change.Change.{Change}
use Rattle.map_entry.specs.Action.{OutputChangeParts, output_change}
use Rattle.book_words.specs.declared.requests.When.{When}
use Rattle.book_words.specs.declared.requests.When.TheVariants.{Now, At, After}
use Rattle.book_words.specs.declared.requests.Request.{Request}
use Rattle.book_words.specs.declared.requests.Request.TheVariants.{Activate}
use Rattle.channel_json.specs.declared.faults.Place.TheVariants.{Top, Activation, Mode, Time}
use Rattle.channel_json.specs.declared.faults.Place.TheVariants.{Action, Output, Cell as CellPlace}
use Rattle.channel_json.specs.declared.faults.BodyFault.{BodyFault}
use Rattle.channel_json.specs.declared.faults.BodyFault.TheVariants.{NotJson, Shape, UnknownOutput}
use Rattle.channel_json.specs.declared.faults.BodyFault.TheVariants.{UnknownInput}
use Rattle.channel_json.specs.declared.requests.Scheduling.{Scheduling}
use Rattle.channel_json.specs.declared.requests.Scheduling.TheVariants.{Immediate, Absolute}
use Rattle.channel_json.specs.declared.requests.Scheduling.TheVariants.{Relative}
use Rattle.channel_json.specs.Values.{document}
use Rattle.channel_json.specs.Fields.{at_most, whole_at, text_at, object_at, is_null_at}
use Rattle.channel_json.specs.Fields.{found_below}
use Rattle.channel_json.specs.Cells.{output_id}

-- ---- faults in their order

-- the fault where there is nothing, else what comes of it
abbrev pub or_fault : {A B : Type 0} → BodyFault → Option A → (A → Result B BodyFault)
    → Result B BodyFault
or_fault fault None go = Err fault
or_fault fault (Some a) go = go a

-- the first fault, or what comes of the value
abbrev pub and_then : {A B : Type 0} → Result A BodyFault → (A → Result B BodyFault)
    → Result B BodyFault
and_then (Ok a) go = go a
and_then (Err fault) go = Err fault

-- the value, unless there is a fault
abbrev pub unless_fault : {A : Type 0} → Option BodyFault → A → Result A BodyFault
unless_fault None a = Ok a
unless_fault (Some fault) a = Err fault

-- what is answered is the outcome that is meant, or that memory ran out
abbrev pub Answers : {A F : Type 0} → Result A F → Result A (Or F) → Type 0
Answers meant (Ok a) = meant ≡ Ok a
Answers meant (Err (Fault fault)) = meant ≡ Err fault
Answers meant (Err NoMemory) = Unit {0}

-- ---- numbers in texts

-- the number whose decimal text this is, without leading zeros, where it is not above a greatest
-- one
abbrev pub number_in : ℕ → List ℕ → Option ℕ
number_in most text =
    if bytes_eq text (decimal (digits_value 10 text)) then at_most most (digits_value 10 text)
    else None

-- a channel's number: one to three digits, at most 255
abbrev pub channel_in : List ℕ → Option ℕ
channel_in key = number_in 255 key

-- whether a text is one digit or more, and nothing else
abbrev pub are_digits : List ℕ → Bool
are_digits text = nat_lt 0 (length text) && list_all (λ b. nat_lt (digit_value b) 10) text

-- the time that these parts write, where each number is in its range
abbrev pub time_of_parts : List ℕ → List ℕ → Option TaiTime
time_of_parts secs nanos =
    if are_digits secs &&
    (are_digits nanos &&
    (nat_lt (digits_value 10 secs) secs_limit && nat_lt (digits_value 10 nanos) second))
    then Some (record { secs = digits_value 10 secs; nanos = digits_value 10 nanos }) else None

-- the time of a text `seconds:nanoseconds`, where it is one
unfoldable pub time_in : List ℕ → Option TaiTime
time_in text =
    if list_any is_colon text then time_of_parts (secs_part text) (nanos_part text) else None

-- ---- when

-- how an activation is scheduled, by the word for it
abbrev pub scheduling_in : List ℕ → Option Scheduling
scheduling_in text =
    if bytes_eq text (codes "activate_immediate") then Some Immediate
    else if bytes_eq text (codes "activate_scheduled_absolute") then Some Absolute
    else if bytes_eq text (codes "activate_scheduled_relative") then Some Relative
    else None

-- how an activation is scheduled, by what stands under its key
abbrev pub scheduling_at : Data → Option Scheduling
scheduling_at d = option_and_then scheduling_in (text_at (codes "mode") d)

-- the time that is asked for
abbrev pub time_at : Data → Option TaiTime
time_at d = option_and_then time_in (text_at (codes "requested_time") d)

-- when an activation is to count; for an immediate one the time that is asked for is not looked at
abbrev pub when_at : Scheduling → Data → Option When
when_at Immediate d = Some Now
when_at Absolute d = option_map At (time_at d)
when_at Relative d = option_map After (time_at d)

-- when the activation of a document is to count
abbrev pub when_in : Data → Result When BodyFault
when_in d =
    or_fault (Shape Top) (as_object d) (λ top.
    or_fault (Shape Activation) (object_at (codes "activation") d) (λ activation.
    or_fault (Shape Mode) (scheduling_at activation) (λ scheduling.
    or_fault (Shape Time) (when_at scheduling activation) (λ when.
    Ok when))))

-- ---- cells

-- the number of the input of an id
abbrev pub input_number : DeviceParts → List ℕ → Option ℕ
input_number device id = position (λ i. bytes_eq i.id id) device.inputs

-- the number of the output of an id
abbrev pub output_number : DeviceParts → List ℕ → Option ℕ
output_number device id = position (λ o. bytes_eq o.id id) device.outputs

-- what a channel is routed from: a channel of an input that is there
abbrev pub routed_in : DeviceParts → Data → Result Cell BodyFault
routed_in device d =
    or_fault (Shape CellPlace) (text_at (codes "input") d) (λ id.
    or_fault (Shape CellPlace) (whole_at 255 (codes "channel_index") d) (λ channel.
    or_fault UnknownInput (input_number device id) (λ input.
    Ok (From input channel))))

-- what a channel is routed from: nothing, where input and channel are null or missing
abbrev pub cell_in : DeviceParts → Data → Result Cell BodyFault
cell_in device d =
    if not (is_some (as_object d)) then Err (Shape CellPlace)
    else if is_null_at (codes "input") d && is_null_at (codes "channel_index") d then Ok Unrouted
    else routed_in device d

-- ---- the first fault of an action, in the order of the keys' bytes

-- the fault of a result, where it is one
abbrev pub fault_of : {A : Type 0} → Result A BodyFault → Option BodyFault
fault_of (Ok a) = None
fault_of (Err fault) = Some fault

-- of a channel's key and its cell
abbrev pub cell_fault : DeviceParts → List ℕ → Data → Option BodyFault
cell_fault device key d =
    fault_of (or_fault (Shape CellPlace) (channel_in key) (λ channel. cell_in device d))

-- the first fault of the channels of an output
abbrev pub cells_fault : DeviceParts → Members → Option BodyFault
cells_fault device no_members = None
cells_fault device (member key d members) =
    option_or (cell_fault device key d) (cells_fault device members)

-- the fault of what stands under a known output's id
abbrev pub changes_fault : DeviceParts → Option Members → Option BodyFault
changes_fault device None = Some (Shape Output)
changes_fault device (Some members) = cells_fault device members

-- of an output's id and what stands under it
abbrev pub output_fault : DeviceParts → List ℕ → Data → Option BodyFault
output_fault device id d =
    if is_some (output_number device id) then changes_fault device (as_object d)
    else Some UnknownOutput

-- the first fault of the outputs
abbrev pub outputs_fault : DeviceParts → Members → Option BodyFault
outputs_fault device no_members = None
outputs_fault device (member id d members) =
    option_or (output_fault device id d) (outputs_fault device members)

-- the first fault of an action
abbrev pub action_fault : DeviceParts → Data → Option BodyFault
action_fault device d = option_and_then (outputs_fault device) (as_object d)

-- ---- an action without fault

-- the change of a channel, where its number is a key
abbrev pub change_at : DeviceParts → Data → ℕ → Option Change
change_at device d channel =
    option_map (λ cell. record { channel = channel; cell = cell })
    (option_and_then (λ c. result_ok (cell_in device c)) (get (decimal channel) d))

-- what is changed of an output, in the order of the channels
abbrev pub changes_in : DeviceParts → Data → List Change
changes_in device d = found_below (change_at device d) 256

-- what is changed of the output of a number, where its id is a key
abbrev pub output_at : DeviceParts → Data → ℕ → Option OutputChangeParts
output_at device d output =
    option_map (λ cells. output_change output (changes_in device cells))
    (get (output_id device output) d)

-- what is changed, in the order of the device's outputs
abbrev pub action_in : DeviceParts → Data → List OutputChangeParts
action_in device d = found_below (output_at device d) (length device.outputs)

-- ---- the request

-- the action that stands in a document, as a request at such a time
abbrev pub activate_in : DeviceParts → Data → When → Result Request BodyFault
activate_in device d when =
    or_fault (Shape Action) (object_at (codes "action") d) (λ action.
    unless_fault (action_fault device action) (Activate when (action_in device action)))

-- the request of a document, or its first fault
abbrev pub request_in : DeviceParts → Data → Result Request BodyFault
request_in device d = and_then (when_in d) (activate_in device d)

-- the request of a body, or its first fault
abbrev pub request_by : DeviceParts → List ℕ → Result Request BodyFault
request_by device text = or_fault NotJson (document text) (request_in device)
