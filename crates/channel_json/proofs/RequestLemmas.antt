-- What is read of an action is an action.
use Rattle.std.proofs.Common.{◌≡◌, ℕ, ◌-◌, ◌<◌, List, length, Option, Some, None, option_map, refl}
use Rattle.std.proofs.Common.{sym, ap}
use Rattle.std.specs.Prelude.{All, IfSome, slice_get, decimal, option_and_then}
use Rattle.std.specs.Result.{result_ok}
use Rattle.std.proofs.lemmas.Option.{same_Some}
use Rattle.serde_json.specs.Data.{Data}
use Rattle.serde_json.specs.Find.{get}
use Rattle.io_caps.specs.declared.device.DeviceParts.{DeviceParts}
use Rattle.map_entry.specs.declared.cell.Cell.{Cell}
use Rattle.map_entry.specs.declared.change.Change.{Change}
use Rattle.map_entry.specs.Action.{OutputChangeParts, IsOutputChange, output_change}
use Rattle.channel_json.specs.Cells.{output_id}
use Rattle.channel_json.specs.Fields.{found_below}
use Rattle.channel_json.specs.Requests.{cell_in, change_at, changes_in, output_at}
use Rattle.channel_json.proofs.FoundLemmas.{at_some, found_ascends, found_lies_below}

abbrev change_of : ℕ → Cell → Change
change_of channel cell = record { channel = channel; cell = cell }

changed : (channel : ℕ) (o : Option Cell) (change : Change)
    → option_map (change_of channel) o ≡ Some change → change.channel ≡ channel
changed channel None change e = absurd cc
changed channel (Some cell) change e =
    ap (λ (c : Change). c.channel) (sym (same_Some (change_of channel cell) change e))

pub changes_ascend : (device : DeviceParts) (d : Data) (output : ℕ)
    → IsOutputChange (output_change output (changes_in device d))
changes_ascend device d output =
    found_ascends (λ (c : Change). c.channel) (change_at device d) 256
    (λ channel change e. changed channel
    (option_and_then (λ c. result_ok (cell_in device c)) (get (decimal channel) d)) change e)

outputs_at : (device : DeviceParts) (output : ℕ) (o : Option Data) (change : OutputChangeParts)
    → option_map (λ cells. output_change output (changes_in device cells)) o ≡ Some change
    → change.output ≡ output
outputs_at device output None change e = absurd cc
outputs_at device output (Some cells) change e =
    ap (λ (c : OutputChangeParts). c.output) (sym (same_Some _ _ e))

-- the outputs that were read so far are below the next one
pub last_is_below : (device : DeviceParts) (d : Data) (n : ℕ) (so_far : List OutputChangeParts)
    → so_far ≡ found_below (output_at device d) n
    → IfSome (slice_get so_far (length so_far - 1)) (λ last. last.output < n)
last_is_below device d n so_far e =
    let below : All (λ (c : OutputChangeParts). c.output < n) so_far =
    rw e (found_lies_below (λ (c : OutputChangeParts). c.output) (output_at device d) n
    (λ output change is. outputs_at device output (get (output_id device output) d) change is)) in
    at_some (λ (c : OutputChangeParts). c.output < n) so_far (length so_far - 1)
    (slice_get so_far (length so_far - 1)) refl below
