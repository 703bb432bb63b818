-- What is routed, as JSON. (After AMWA IS-08 v1.0: the `action` of `/map/activations`, and the
-- `map` of `/map/active`.)
use Rattle.std.specs.Prelude.{ℕ, ◌+◌, List, [], ◌∷◌, length, map, Option, Some, None, slice_get}
use Rattle.std.specs.Prelude.{codes, decimal}
use Rattle.std.specs.List.{range_with_len}
use Rattle.std.specs.Option.{unwrap_or, option_map_or}
use Rattle.serde_json.specs.Data.{Data, null, number, unsigned, string, object, no_members, member}
use Rattle.io_caps.specs.declared.device.DeviceParts.{DeviceParts}
use Rattle.map_entry.specs.declared.cell.Cell.{Cell}
use Rattle.map_entry.specs.declared.cell.Cell.TheVariants.{Unrouted, From}
use Rattle.map_entry.specs.declared.change.Change.{Change}
use Rattle.map_entry.specs.Action.{OutputChangeParts}
use Rattle.channel_json.specs.Values.{object_of}

-- the id of an input; of one that is not there, the empty text
abbrev pub input_id : DeviceParts → ℕ → List ℕ
input_id device input = option_map_or (λ i. i.id) (slice_get device.inputs input) []

-- the id of an output; of one that is not there, the empty text
abbrev pub output_id : DeviceParts → ℕ → List ℕ
output_id device output = option_map_or (λ o. o.id) (slice_get device.outputs output) []

-- an input and its channel
abbrev pub pair_data : Data → Data → Data
pair_data channel input =
    object (member (codes "channel_index") channel (member (codes "input") input no_members))

-- a cell: nulls where it is unrouted
abbrev pub cell_data : DeviceParts → Cell → Data
cell_data device Unrouted = pair_data null null
cell_data device (From input channel) =
    pair_data (number (unsigned channel)) (string (input_id device input))

-- cells, each under the number of its channel, where the first has this number
abbrev pub numbered : DeviceParts → ℕ → List Cell → List (List ℕ × Data)
numbered device channel [] = []
numbered device channel (cell ∷ cells) =
    (decimal channel, cell_data device cell) ∷ numbered device (channel + 1) cells

-- a row: an object from channel number to cell
abbrev pub row_data : DeviceParts → List Cell → Data
row_data device row = object_of (numbered device 0 row)

-- a channel that is changed, with its cell
abbrev pub change_member : DeviceParts → Change → List ℕ × Data
change_member device change = (decimal change.channel, cell_data device change.cell)

-- what is changed of an output: an object from channel number to cell
abbrev pub changes_data : DeviceParts → List Change → Data
changes_data device changes = object_of (map (change_member device) changes)

-- an output that is changed, with what is changed of it
abbrev pub output_member : DeviceParts → OutputChangeParts → List ℕ × Data
output_member device change = (output_id device change.output, changes_data device change.changes)

-- an action: an object from the id of an output to what is changed of it
abbrev pub action_data : DeviceParts → List OutputChangeParts → Data
action_data device action = object_of (map (output_member device) action)

-- the row of an output; of one that is not there, the empty row
abbrev pub row_of : List (List Cell) → ℕ → List Cell
row_of rows output = unwrap_or (slice_get rows output) []

-- an output with its row
abbrev pub row_member : DeviceParts → List (List Cell) → ℕ → List ℕ × Data
row_member device rows output = (output_id device output, row_data device (row_of rows output))

-- the outputs of a map: all, or one alone
abbrev pub outputs_shown : DeviceParts → Option ℕ → List ℕ
outputs_shown device None = range_with_len 0 (length device.outputs)
outputs_shown device (Some output) = output ∷ []

-- a map: an object from the id of an output to its row
abbrev pub map_data : DeviceParts → List (List Cell) → Option ℕ → Data
map_data device rows only = object_of (map (row_member device rows) (outputs_shown device only))
