-- When base rows fit a device. (This project's own.)
use Rattle.std.specs.Prelude.{◌≡◌, ℕ, ◌<◌, List, length, Some, IfSome, IsSomeAnd, slice_get}
use Rattle.std.specs.List.{AllZip}
use Rattle.io_caps.specs.Device.{IsDevice}
use Rattle.io_caps.specs.declared.port.Output.{Output}
use Rattle.io_caps.specs.declared.device.DeviceParts.{DeviceParts}
use Rattle.map_entry.specs.declared.cell.Cell.{Cell}
use Rattle.map_entry.specs.declared.fault.RowFault.{RowFault}
use Rattle.map_entry.specs.declared.grain.Grain.{Grain}
use Rattle.map_entry.specs.declared.grain.Grain.TheVariants.{Tick}
use Rattle.map_entry.specs.declared.fault.SetupFault.{SetupFault}
use Rattle.map_entry.specs.declared.fault.SetupFault.TheVariants.{Count, BaseRow}
use Rattle.map_entry.specs.Row.{row_fault, IsRowOk}

-- a device with its base rows, and how exactly activations at a time count
pub record SetupParts : Type 0 where
  pub device : DeviceParts
  pub rows : List (List Cell)
  pub grain : Grain

-- the setup of a device and its base rows, with this grain
abbrev pub setup_with : DeviceParts → List (List Cell) → Grain → SetupParts
setup_with device rows grain = record { device = device; rows = rows; grain = grain }

-- the setup of a device and its base rows, whose activations count from the beginnings of ticks
abbrev pub setup_of : DeviceParts → List (List Cell) → SetupParts
setup_of device rows = setup_with device rows Tick

-- the row has a cell for each channel
abbrev pub HasCells : Output → List Cell → Type 0
HasCells output row = length row ≡ length output.labels

-- the base row of each output below a number passes the check there
abbrev pub AreRowsOk : SetupParts → ℕ → Type 0
AreRowsOk setup outputs = (output : ℕ) → output < outputs
    → IfSome (slice_get setup.rows output) (IsRowOk setup.device output)

-- a device within its limits, and a row for each output with a cell for each channel, which passes
-- the check
pub record IsSetup (setup : SetupParts) : Type 0 where
  pub device : IsDevice setup.device
  pub count : AllZip HasCells setup.device.outputs setup.rows
  pub passes : AreRowsOk setup (length setup.rows)

-- the base row of an output has this fault
abbrev pub HasRowFault : SetupParts → ℕ → RowFault → Type 0
HasRowFault setup output fault =
    IsSomeAnd (slice_get setup.rows output) (λ row. row_fault setup.device output row ≡ Some fault)

-- what a fault says of a device and rows: not a row for each output with a cell for each channel;
-- or such rows, and the first that fails the check is this output's and has this fault
abbrev pub IsBrokenBy : SetupParts → SetupFault → Type 0
IsBrokenBy setup Count = AllZip HasCells setup.device.outputs setup.rows → ⊥
IsBrokenBy setup (BaseRow output fault) =
    AllZip HasCells setup.device.outputs setup.rows
    × AreRowsOk setup output
    × HasRowFault setup output fault
