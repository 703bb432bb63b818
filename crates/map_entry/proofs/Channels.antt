-- Rows that pass the check name channels that are there.
use Rattle.std.proofs.Common.{◌≡◌, ℕ, suc, ◌<◌, List, [], ◌∷◌, length, Option, Some, None, arith}
use Rattle.std.specs.Prelude.{All, IsSomeAnd, slice_get}
use Rattle.std.specs.List.{AllByRecursion}
use Rattle.std.specs.Option.{option_map, option_map_or}
use Rattle.std.proofs.lemmas.Bool.{ltb-true}
use Rattle.std.proofs.lemmas.List.Elements.{All-from_recursion}
use Rattle.io_caps.specs.declared.device.DeviceParts.{DeviceParts}
use Rattle.io_caps.specs.declared.port.Input.{Input}
use Rattle.map_entry.specs.declared.cell.Cell.{Cell}
use Rattle.map_entry.specs.declared.cell.Cell.TheVariants.{From}
use Rattle.map_entry.specs.declared.fault.RowFault.TheVariants.{Input as NoInput, Channel as NoChannel}
use Rattle.map_entry.specs.Row.{cell_at, channels_of, is_input_there, is_channel_there, IsChannelThere, lowest_out, row_fault, IsRowOk}
use Rattle.map_entry.proofs.Lowest.{all_there}
use Rattle.list_laws.proofs.Options.{option_map-None, option_or-first, option_or-second}

-- ---- a channel that is there

there_in : (input : Option Input) (channel : ℕ) → channel < option_map_or (λ i. length i.labels) input 0
    → IsSomeAnd input (λ i. channel < length i.labels)
there_in None channel less = absurd (omega (arith, less))
there_in (Some i) channel less = less

-- its input is there, and has the channel
pub channel_there : (inputs : List Input) (input channel : ℕ) → IsChannelThere inputs (From input channel)
    → IsSomeAnd (slice_get inputs input) (λ i. channel < length i.labels)
channel_there inputs input channel there = there_in (slice_get inputs input) channel (ltb-true channel (channels_of inputs input) there)

-- ---- rows that pass

no_channel_out : (d : DeviceParts) (output : ℕ) (row : List Cell) → IsRowOk d output row
    → lowest_out (λ channel. is_channel_there d.inputs) row ≡ None
unfolding row_fault
no_channel_out d output row ok =
    option_map-None NoChannel (lowest_out (λ channel. is_channel_there d.inputs) row)
    (option_or-first _ _ (option_or-second (option_map NoInput (lowest_out (λ channel. is_input_there d.inputs) row)) _ ok))

each_there : (inputs : List Input) (row : List Cell) → ((k : ℕ) → IsChannelThere inputs (cell_at row k)) → AllByRecursion (IsChannelThere inputs) row
each_there inputs [] each = tt
each_there inputs (cell ∷ row) each = (each 0, each_there inputs row (λ k. each (suc k)))

-- each cell names a channel that is there
pub passed_there : (d : DeviceParts) (output : ℕ) (row : List Cell) → IsRowOk d output row → All (IsChannelThere d.inputs) row
passed_there d output row ok = All-from_recursion (IsChannelThere d.inputs) row
    (each_there d.inputs row (all_there d.inputs row (no_channel_out d output row ok)))
