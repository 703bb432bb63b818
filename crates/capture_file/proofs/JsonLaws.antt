-- A text says one device, and one that is refused says none that is in order.
use Rattle.std.proofs.Common.{◌≡◌, ℕ, ◌<◌, List, length, Option, Some, None, refl, sym, ap, ◌∙◌}
use Rattle.std.proofs.Common.{arith}
use Rattle.std.specs.Prelude.{IfSome, IsSomeAnd, slice_get, Err}
use Rattle.std.proofs.lemmas.Option.{slice_get_within}
use Rattle.io_caps.specs.Device.{IsDevice}
use Rattle.io_caps.specs.Fault.{IsBroken}
use Rattle.io_caps.specs.declared.memory.Or.TheVariants.{Fault}
use Rattle.io_caps.specs.declared.device.DeviceParts.{DeviceParts}
use Rattle.io_caps.specs.declared.fault.DeviceFault.{DeviceFault}
use Rattle.io_caps.specs.declared.fault.DeviceFault.TheVariants.{Rate, Base, Hold, NoOutput}
use Rattle.io_caps.specs.declared.fault.DeviceFault.TheVariants.{ManyInputs, ManyOutputs, Id}
use Rattle.io_caps.specs.declared.fault.DeviceFault.TheVariants.{DoubleId, Channels, PayloadType}
use Rattle.io_caps.specs.declared.fault.DeviceFault.TheVariants.{ManyChannels, Block, Payload}
use Rattle.io_caps.specs.declared.fault.DeviceFault.TheVariants.{Unknown}
use Rattle.io_caps.specs.declared.fault.Slot.TheVariants.{Source, Target}
use Rattle.map_entry.specs.Setup.{SetupParts, IsSetup, IsBrokenBy}
use Rattle.map_entry.specs.Row.{row_fault, IsRowOk}
use Rattle.map_entry.specs.declared.cell.Cell.{Cell}
use Rattle.map_entry.specs.declared.fault.RowFault.{RowFault}
use Rattle.map_entry.specs.declared.fault.SetupFault.{SetupFault}
use Rattle.map_entry.specs.declared.fault.SetupFault.TheVariants.{Count, BaseRow}
use Rattle.exact_text.proofs.Exact.{some_is}
use Rattle.channel_json.specs.Fields.{◌>>=◌}
use Rattle.channel_json.specs.Devices.{setup_in, Says, ReadsDevice}
use Rattle.channel_json.specs.declared.faults.DeviceJsonFault.{DeviceJsonFault}
use Rattle.channel_json.specs.declared.faults.DeviceJsonFault.TheVariants.{NotJson, Shape, Device}
use Rattle.channel_json.specs.declared.faults.DeviceJsonFault.TheVariants.{Rows}

-- a text says one device
pub says_once : (text : List ℕ) (a b : SetupParts) → Says text a → Says text b → a ≡ b
says_once text a b h k = some_is a b (sym h ∙ k)

-- no device that breaks a limit is within all of them
broken_none : (d : DeviceParts) (fault : DeviceFault) → IsBroken d fault → IsDevice d → ⊥
broken_none d Rate broken is = broken is.bounds.rate
broken_none d Base broken is = broken is.bounds.base
broken_none d Hold broken is = omega (arith, broken, is.bounds.hold)
broken_none d NoOutput broken is = omega (arith, broken, is.bounds.some_output)
broken_none d ManyInputs broken is = omega (arith, broken, is.bounds.few_inputs)
broken_none d ManyOutputs broken is = omega (arith, broken, is.bounds.few_outputs)
broken_none d (Id (Source k)) broken is = broken.some is.ids.inputs
broken_none d (Id (Target k)) broken is = broken.1.some is.ids.outputs
broken_none d (DoubleId (Source k)) broken is = broken.some is.ids.distinct_inputs
broken_none d (DoubleId (Target k)) broken is = broken.1.some is.ids.distinct_outputs
broken_none d (Channels (Source k)) broken is = broken.some is.streams.inputs
broken_none d (Channels (Target k)) broken is = broken.1.some is.streams.outputs
broken_none d (PayloadType (Source k)) broken is = broken.some is.streams.input_types
broken_none d (PayloadType (Target k)) broken is = broken.1.some is.streams.output_types
broken_none d ManyChannels broken is = omega (arith, broken, is.streams.together)
broken_none d (Block k) broken is = broken.some is.routes.blocks
broken_none d (Payload k) broken is = broken.some is.routes.packets
broken_none d (Unknown k) broken is = broken.some is.routes.routable

row_unfit : (d : DeviceParts) (output : ℕ) (fault : RowFault) (rows : List (List Cell))
    (o : Option (List Cell)) → slice_get rows output ≡ o
    → (output < length rows → IfSome o (IsRowOk d output))
    → IsSomeAnd o (λ row. row_fault d output row ≡ Some fault) → ⊥
row_unfit d output fault rows None e passes broken = absurd broken
row_unfit d output fault rows (Some row) e passes broken =
    let ok = passes (slice_get_within rows output row e) in
    let none : Some fault ≡ None = sym broken ∙ ok in absurd cc

-- no rows that do not fit a device are in order
unfit_none : (setup : SetupParts) (fault : SetupFault) → IsBrokenBy setup fault → IsSetup setup → ⊥
unfit_none setup Count broken is = broken is.count
unfit_none setup (BaseRow output fault) broken is =
    row_unfit setup.device output fault setup.rows (slice_get setup.rows output) refl
    (is.passes output) broken.2

-- a text that is refused says no device that is in order
pub refused_says : (text : List ℕ) (fault : DeviceJsonFault) → ReadsDevice text (Err (Fault fault))
    → (setup : SetupParts) → IsSetup setup → Says text setup → ⊥
refused_says text NotJson h setup is says = let none : Some setup ≡ None =
    sym says ∙ ap (λ o. o >>= setup_in) h in absurd cc
refused_says text Shape h setup is says = let none : Some setup ≡ None =
    sym says ∙ ap (λ o. o >>= setup_in) h.1 ∙ h.2 in absurd cc
refused_says text (Device fault) h setup is says =
    broken_none h.0.device fault h.2.broken (rw (says_once text h.0 setup h.1 says) is.device)
refused_says text (Rows fault) h setup is says =
    unfit_none h.0 fault h.3 (rw (says_once text h.0 setup h.1 says) is)
