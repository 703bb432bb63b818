-- Base rows that fit a device.
use Rattle.std.proofs.Common.{◌≡◌, ℕ, zero, suc, ◌<◌, List, [], ◌∷◌, length, Some, subst, arith}
use Rattle.std.specs.Prelude.{slice_get}
use Rattle.std.specs.List.{AllZip}
use Rattle.std.specs.Option.{option_map_or}
use Rattle.std.proofs.lemmas.Slice.Zip.{AllZip-long}
use Rattle.std.proofs.lemmas.Option.{slice_get_within}
use Rattle.io_caps.specs.declared.device.DeviceParts.{DeviceParts}
use Rattle.io_caps.specs.declared.port.Output.{Output}
use Rattle.map_entry.specs.declared.cell.Cell.{Cell}
use Rattle.map_entry.specs.Row.{channels_of_output, IsRowOf}
use Rattle.map_entry.specs.Setup.{SetupParts, IsSetup, HasCells}

-- there is a row for each output
pub rows_long : (s : SetupParts) → IsSetup s → length s.rows ≡ length s.device.outputs
rows_long s is = AllZip-long HasCells s.device.outputs s.rows is.count

-- the row of an output has its cells
row_long : (outputs : List Output) (rows : List (List Cell)) (k : ℕ) (row : List Cell) → AllZip HasCells outputs rows → slice_get rows k ≡ Some row
    → length row ≡ option_map_or (λ o. length o.labels) (slice_get outputs k) 0
row_long [] [] k row all e = absurd cc
row_long [] (r ∷ rows) k row all e = absurd all
row_long (o ∷ outputs) [] k row all e = absurd all
row_long (o ∷ outputs) (r ∷ rows) zero row all e = let same : r ≡ row = cc in subst (λ (x : List Cell). length x ≡ length o.labels) same all.0
row_long (o ∷ outputs) (r ∷ rows) (suc k) row all e = row_long outputs rows k row all.1 e

pub base_long : (d : DeviceParts) (rows : List (List Cell)) (k : ℕ) (row : List Cell) → AllZip HasCells d.outputs rows → slice_get rows k ≡ Some row
    → length row ≡ channels_of_output d k
base_long d rows k row all e = row_long d.outputs rows k row all e

-- the base row of an output is one of it
pub base_row : (s : SetupParts) (k : ℕ) (row : List Cell) → IsSetup s → slice_get s.rows k ≡ Some row → IsRowOf s.device k row
base_row s k row is read =
    let within : k < length s.rows = slice_get_within s.rows k row read in
    record {
      there = omega (arith, within, rows_long s is);
      long = base_long s.device s.rows k row is.count read;
      passes = rw read at (is.passes k within);
    }
