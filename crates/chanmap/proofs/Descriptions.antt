-- Of a session description either a capture is made, or there is a reason why none is.
use Rattle.std.proofs.Common.{◌≡◌, ℕ, List, Option, Some, None, sym, ◌∙◌, true≢false, arith, inl, inr}
use Rattle.std.specs.Prelude.{◌⊎◌, length}
use Rattle.std.proofs.lemmas.Option.{none-some}
use Rattle.io_caps.specs.Device.{IsDevice}
use Rattle.io_caps.specs.Fault.{IsFirstFault}
use Rattle.io_caps.specs.declared.device.DeviceParts.{DeviceParts}
use Rattle.io_caps.specs.declared.fault.Slot.TheVariants.{Source, Target}
use Rattle.io_caps.specs.declared.fault.DeviceFault.{DeviceFault}
use Rattle.io_caps.specs.declared.fault.DeviceFault.TheVariants.{Rate, Base, Hold, NoOutput}
use Rattle.io_caps.specs.declared.fault.DeviceFault.TheVariants.{ManyInputs, ManyOutputs}
use Rattle.io_caps.specs.declared.fault.DeviceFault.TheVariants.{Id, DoubleId, Channels}
use Rattle.io_caps.specs.declared.fault.DeviceFault.TheVariants.{PayloadType, ManyChannels}
use Rattle.io_caps.specs.declared.fault.DeviceFault.TheVariants.{Block, Payload, Unknown}
use Rattle.sdp_audio.specs.Fault.{HasNoFault, IsSdpFault}
use Rattle.sdp_audio.specs.declared.fault.SdpFault.{SdpFault}
use Rattle.sdp_audio.specs.declared.fault.MakeFault.TheVariants.{Empty, Rates, Device}
use Rattle.chanmap.specs.commands.FromSdp.{IsFromSdpInput, IsFromSdpRefusal}
use Rattle.chanmap.specs.declared.end.SdpRefusal.{SdpRefusal}
use Rattle.chanmap.specs.declared.end.SdpRefusal.TheVariants.{Text, Streams}

-- a device within its limits has no fault
within_limits : (d : DeviceParts) (fault : DeviceFault) → IsDevice d → IsFirstFault d fault → ⊥
within_limits d Rate is first = first.broken is.bounds.rate
within_limits d Base is first = first.broken is.bounds.base
within_limits d Hold is first = omega (arith, first.broken, is.bounds.hold)
within_limits d NoOutput is first = omega (arith, first.broken, is.bounds.some_output)
within_limits d ManyInputs is first = omega (arith, first.broken, is.bounds.few_inputs)
within_limits d ManyOutputs is first = omega (arith, first.broken, is.bounds.few_outputs)
within_limits d (Id (Source k)) is first = first.broken.some is.ids.inputs
within_limits d (Id (Target k)) is first = first.broken.1.some is.ids.outputs
within_limits d (DoubleId (Source k)) is first = first.broken.some is.ids.distinct_inputs
within_limits d (DoubleId (Target k)) is first = first.broken.1.some is.ids.distinct_outputs
within_limits d (Channels (Source k)) is first = first.broken.some is.streams.inputs
within_limits d (Channels (Target k)) is first = first.broken.1.some is.streams.outputs
within_limits d (PayloadType (Source k)) is first = first.broken.some is.streams.input_types
within_limits d (PayloadType (Target k)) is first = first.broken.1.some is.streams.output_types
within_limits d ManyChannels is first = omega (arith, first.broken, is.streams.together)
within_limits d (Block k) is first = first.broken.some is.routes.blocks
within_limits d (Payload k) is first = first.broken.some is.routes.packets
within_limits d (Unknown k) is first = first.broken.some is.routes.routable

-- a text without a fault has none
no_fault : (text : List ℕ) (fault : SdpFault) → HasNoFault text → IsSdpFault text fault → ⊥
no_fault text fault good (inl first) =
    none-some fault (sym (good.good first.place first.within) ∙ first.bad)
no_fault text fault good (inr blank) = true≢false (sym blank.0 ∙ good.begun)

-- where a device is made, there is no reason why none is
pub input_has_none : (frames : ℕ) (text : List ℕ) (refusal : SdpRefusal)
    → IsFromSdpInput frames text → IsFromSdpRefusal frames text refusal → ⊥
input_has_none frames text (Text fault) input refused = no_fault text fault input.good refused
input_has_none frames text (Streams Empty) input refused = input.made.some refused.1
input_has_none frames text (Streams Rates) input refused = refused.1.1 input.made.one_rate
input_has_none frames text (Streams (Device fault)) input refused =
    within_limits _ fault input.made.device refused.1.2
