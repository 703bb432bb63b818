-- The check of a row, as five conditions over all its channels. (After the caps of inputs and
-- outputs in AMWA IS-08 v1.0, `/inputs/{id}/caps` and `/outputs/{id}/caps`: `block_size`,
-- `reordering` and `routable_inputs`. The order of the conditions and how the channels of a row are
-- cut into pieces are this project's own.)
use Rattle.std.specs.Prelude.{◌≡◌, ℕ, ◌+◌, ◌*◌, ◌/◌, ◌%◌, ◌<◌, ◌&&◌, ◌||◌, not, eqb, nat_lt}
use Rattle.std.specs.Prelude.{Bool, true, false, IsTrue, List, length, take, drop, Option}
use Rattle.std.specs.Prelude.{Some, None, option_map, count_by, find, slice_get, slice_index_or}
use Rattle.std.specs.List.{list_any, list_all, range_with_len}
use Rattle.std.specs.Option.{option_or, option_map_or}
use Rattle.io_caps.specs.declared.device.DeviceParts.{DeviceParts}
use Rattle.io_caps.specs.declared.port.Input.{Input}
use Rattle.io_caps.specs.declared.port.Routable.{Routable}
use Rattle.io_caps.specs.declared.port.Routable.TheVariants.{All as Anything, Only}
use Rattle.map_entry.specs.declared.cell.Cell.{Cell}
use Rattle.map_entry.specs.declared.cell.Cell.TheVariants.{Unrouted, From}
use Rattle.map_entry.specs.declared.fault.RowFault.{RowFault}
use Rattle.map_entry.specs.declared.fault.RowFault.TheVariants.{Input as NoInput}
use Rattle.map_entry.specs.declared.fault.RowFault.TheVariants.{Channel as NoChannel}
use Rattle.map_entry.specs.declared.fault.RowFault.TheVariants.{NotRoutable, Block, Order}

-- ---- cells

-- whether a cell names an input
abbrev pub names : ℕ → Cell → Bool
names input Unrouted = false
names input (From of channel) = eqb of input

-- whether a cell is this channel of this input
abbrev pub is_from : ℕ → ℕ → Cell → Bool
is_from input channel Unrouted = false
is_from input channel (From of at) = eqb of input && eqb at channel

-- the cell of a channel of an output; past the end there is none
abbrev pub cell_at : List Cell → ℕ → Cell
cell_at row channel = slice_index_or row channel Unrouted

-- ---- what each cell is asked

-- how many channels an input has: as many as labels
abbrev pub channels_of : List Input → ℕ → ℕ
channels_of inputs input = option_map_or (λ i. length i.labels) (slice_get inputs input) 0

-- whether the input that a cell names is there
abbrev pub is_input_there : List Input → Cell → Bool
is_input_there inputs Unrouted = true
is_input_there inputs (From input channel) = nat_lt input (length inputs)

-- whether the channel that a cell names is there
abbrev pub is_channel_there : List Input → Cell → Bool
is_channel_there inputs Unrouted = true
is_channel_there inputs (From input channel) = nat_lt channel (channels_of inputs input)

-- the channel that a cell names is there
abbrev pub IsChannelThere : List Input → Cell → Type 0
IsChannelThere inputs cell = IsTrue (is_channel_there inputs cell)

-- the choice that a cell makes: an input, or none
abbrev pub choice_of : Cell → Option ℕ
choice_of Unrouted = None
choice_of (From input channel) = Some input

-- whether two choices are alike
abbrev pub same_choice : Option ℕ → Option ℕ → Bool
same_choice None None = true
same_choice None (Some b) = false
same_choice (Some a) None = false
same_choice (Some a) (Some b) = eqb a b

-- whether the choice that a cell makes is allowed: all are, or it is on the list; a list without
-- members allows none
abbrev pub is_allowed : Routable → Cell → Bool
is_allowed Anything cell = true
is_allowed (Only choices) cell = list_any (same_choice (choice_of cell)) choices

-- ---- pieces. The channels of a row that name an input, ascending, are cut into pieces of as many
-- channels as a channel block of the input has. A piece begins where the channels below that name
-- the input are whole pieces in number; it need not begin at a multiple of its size.

-- how many channels a channel block of an input has
abbrev pub block_size : List Input → ℕ → ℕ
block_size inputs input = option_map_or (λ i. i.block_size) (slice_get inputs input) 0

-- whether the channels of a channel block may be routed in another order
abbrev pub reorders : List Input → ℕ → Bool
reorders inputs input = option_map_or (λ i. i.reordering) (slice_get inputs input) true

-- how many channels below this one name an input
abbrev pub named_below : List Cell → ℕ → ℕ → ℕ
named_below row input channel = count_by (names input) (take channel row)

-- whether a piece begins at a channel that names the input
abbrev pub begins_piece : ℕ → List Cell → ℕ → ℕ → Bool
begins_piece size row input channel = eqb (named_below row input channel % size) 0

-- a given number of channels of the output from one on
abbrev pub piece_at : ℕ → List Cell → ℕ → List Cell
piece_at size row channel = take size (drop channel row)

-- whether the piece names channel k of the channel block whose first channel is `from`
abbrev pub names_part : ℕ → ℕ → List Cell → ℕ → Bool
names_part input from piece k = list_any (is_from input (from + k)) piece

-- whether a piece is whole: a given number of neighbouring channels name the input, and among them
-- they name each channel of the channel block whose first channel is `from`, so each just once
abbrev pub is_whole : ℕ → ℕ → ℕ → List Cell → Bool
is_whole size input from piece =
    eqb (length piece) size
    && (list_all (names input) piece
    && list_all (names_part input from piece) (range_with_len 0 size))

-- whether a piece names the channels of its channel block in ascending order
abbrev pub ascends : ℕ → ℕ → ℕ → List Cell → Bool
ascends size input from piece =
    list_all (λ k. is_from input (from + k) (cell_at piece k)) (range_with_len 0 size)

-- the first channel of the channel block in which a channel lies
abbrev pub block_from : ℕ → ℕ → ℕ
block_from size channel = channel / size * size

-- Whether the piece that begins at a channel of the output is whole, where its cell is this one.
-- Its channel block is that of its first channel. Where no piece begins, there is none to be whole.
abbrev pub whole_from : List Input → List Cell → ℕ → Cell → Bool
whole_from inputs row channel Unrouted = true
whole_from inputs row channel (From input at) =
    let size = block_size inputs input in
    not (begins_piece size row input channel)
    || is_whole size input (block_from size at) (piece_at size row channel)

-- The same of the order, which counts where the channels of the input's channel blocks may not be
-- reordered.
abbrev pub ordered_from : List Input → List Cell → ℕ → Cell → Bool
ordered_from inputs row channel Unrouted = true
ordered_from inputs row channel (From input at) =
    let size = block_size inputs input in
    reorders inputs input
    || (not (begins_piece size row input channel)
    || ascends size input (block_from size at) (piece_at size row channel))

-- ---- the check

-- the lowest channel that does not pass
abbrev pub lowest_out : (ℕ → Cell → Bool) → List Cell → Option ℕ
lowest_out passes row =
    find (λ channel. not (passes channel (cell_at row channel))) (range_with_len 0 (length row))

-- what may be routed to an output
abbrev pub routable_of : DeviceParts → ℕ → Routable
routable_of d output = option_map_or (λ o. o.routable) (slice_get d.outputs output) Anything

-- of these inputs and what may be routed: the first condition that a row fails, in the order of the
-- variants, with the lowest channel that fails it
abbrev pub fault_of : List Input → Routable → List Cell → Option RowFault
fault_of inputs routable row =
    option_or (option_map NoInput (lowest_out (λ channel. is_input_there inputs) row))
    (option_or (option_map NoChannel (lowest_out (λ channel. is_channel_there inputs) row))
    (option_or (option_map NotRoutable (lowest_out (λ channel. is_allowed routable) row))
    (option_or (option_map Block (lowest_out (whole_from inputs row) row))
    (option_map Order (lowest_out (ordered_from inputs row) row)))))

-- the fault of a row of an output, or none
unfoldable pub row_fault : DeviceParts → ℕ → List Cell → Option RowFault
row_fault d output row = fault_of d.inputs (routable_of d output) row

-- the row passes the check
abbrev pub IsRowOk : DeviceParts → ℕ → List Cell → Type 0
IsRowOk d output row = row_fault d output row ≡ None

-- ---- rows of an output

-- how many channels an output has: as many as labels
abbrev pub channels_of_output : DeviceParts → ℕ → ℕ
channels_of_output d output = option_map_or (λ o. length o.labels) (slice_get d.outputs output) 0

-- the output is there, and the row has a cell for each of its channels and passes the check
pub record IsRowOf (d : DeviceParts) (output : ℕ) (row : List Cell) : Type 0 where
  pub there : output < length d.outputs
  pub long : length row ≡ channels_of_output d output
  pub passes : IsRowOk d output row
