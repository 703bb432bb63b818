-- Which fault parts of a device are refused for: the first limit that they break. (This project's
-- own.)
use Rattle.std.specs.Prelude.{◌≡◌, ◌≢◌, ℕ, ◌<◌, ◌≤◌, List, length, take}
use Rattle.std.specs.Prelude.{All, Option, Some, None, IfSome, IfNone}
use Rattle.std.specs.List.{AllPairs, AllWithin, HoldsAt, Any, sum_by}
use Rattle.io_caps.specs.declared.limits.TheConstants.{MOST_INPUTS, MOST_OUTPUTS}
use Rattle.io_caps.specs.declared.limits.TheConstants.{MOST_INPUT_CHANNELS, MOST_HOLD}
use Rattle.io_caps.specs.Port.{IsId, AreChannels, IsPayloadType}
use Rattle.io_caps.specs.Port.{HasWholeBlocks, FitsPacket, IsRoutable}
use Rattle.io_caps.specs.Rate.{IsRate}
use Rattle.io_caps.specs.Device.{IsBase, HasBounds, HasIds, HasStreams}
use Rattle.io_caps.specs.declared.device.DeviceParts.{DeviceParts}
use Rattle.io_caps.specs.declared.fault.Slot.{Slot}
use Rattle.io_caps.specs.declared.fault.Slot.TheVariants.{Source, Target}
use Rattle.io_caps.specs.declared.fault.DeviceFault.{DeviceFault}
use Rattle.io_caps.specs.declared.fault.DeviceFault.TheVariants.{Rate, Base, Hold, NoOutput}
use Rattle.io_caps.specs.declared.fault.DeviceFault.TheVariants.{ManyInputs, ManyOutputs}
use Rattle.io_caps.specs.declared.fault.DeviceFault.TheVariants.{Id, DoubleId, Channels}
use Rattle.io_caps.specs.declared.fault.DeviceFault.TheVariants.{PayloadType, ManyChannels}
use Rattle.io_caps.specs.declared.fault.DeviceFault.TheVariants.{Block, Payload, Unknown}

-- the place of the first item that has not the property, and none where all have it
pub record IsFirstFailing {X : Type 0} (P : X → Type 0) (xs : List X)
    (place : Option ℕ) : Type 0 where
  pub all : IfNone place (All P xs)
  pub within : IfSome place (λ k. k < length xs)
  pub some : IfSome place (λ _. All P xs → ⊥)
  pub out : IfSome place (HoldsAt (λ x. P x → ⊥) xs)
  pub before : IfSome place (AllWithin P xs 0)

-- the place of the first item whose id an earlier one has, and none where no two ids are alike
pub record IsFirstDouble {X : Type 0} (id : X → List ℕ) (xs : List X)
    (place : Option ℕ) : Type 0 where
  pub all : IfNone place (AllPairs (λ x y. id x ≢ id y) xs)
  pub within : IfSome place (λ k. k < length xs)
  pub some : IfSome place (λ _. AllPairs (λ x y. id x ≢ id y) xs → ⊥)
  pub double : IfSome place (λ k. HoldsAt (λ x. Any (λ y. id y ≡ id x) (take k xs)) xs k)
  pub before : IfSome place (λ k. AllPairs (λ x y. id x ≢ id y) (take k xs))

-- the first of two places, one among the inputs and one among the outputs
abbrev pub first_slot : Option ℕ → Option ℕ → Option Slot
first_slot (Some source) target = Some (Source source)
first_slot None (Some target) = Some (Target target)
first_slot None None = None

-- the slot is the place among the inputs, or else, where there is none, the place among the outputs
abbrev pub IsFirstSlot : (Option ℕ → Type 0) → (Option ℕ → Type 0) → Slot → Type 0
IsFirstSlot IsSource IsTarget (Source source) = IsSource (Some source)
IsFirstSlot IsSource IsTarget (Target target) = IsSource None × IsTarget (Some target)

-- the limit of this fault is broken, at the lowest place
abbrev pub IsBroken : DeviceParts → DeviceFault → Type 0
IsBroken d Rate = IsRate d.rate → ⊥
IsBroken d Base = IsBase d.rate d.base → ⊥
IsBroken d Hold = MOST_HOLD < d.hold
IsBroken d NoOutput = length d.outputs ≡ 0
IsBroken d ManyInputs = MOST_INPUTS < length d.inputs
IsBroken d ManyOutputs = MOST_OUTPUTS < length d.outputs
IsBroken d (Id slot) =
    IsFirstSlot (IsFirstFailing (λ i. IsId i.id) d.inputs)
    (IsFirstFailing (λ o. IsId o.id) d.outputs) slot
IsBroken d (DoubleId slot) =
    IsFirstSlot (IsFirstDouble (λ i. i.id) d.inputs) (IsFirstDouble (λ o. o.id) d.outputs) slot
IsBroken d (Channels slot) =
    IsFirstSlot (IsFirstFailing (λ i. AreChannels i.labels) d.inputs)
    (IsFirstFailing (λ o. AreChannels o.labels) d.outputs) slot
IsBroken d (PayloadType slot) =
    IsFirstSlot (IsFirstFailing (λ i. IsPayloadType i.payload_type) d.inputs)
    (IsFirstFailing (λ o. IsPayloadType o.payload_type) d.outputs) slot
IsBroken d ManyChannels = MOST_INPUT_CHANNELS < sum_by (λ i. length i.labels) d.inputs
IsBroken d (Block input) = IsFirstFailing HasWholeBlocks d.inputs (Some input)
IsBroken d (Payload output) = IsFirstFailing (FitsPacket d.rate) d.outputs (Some output)
IsBroken d (Unknown output) =
    IsFirstFailing (λ o. IsRoutable (length d.inputs) o.routable) d.outputs (Some output)

-- the limits that are tested before the one of this fault hold
abbrev pub IsWithinBefore : DeviceParts → DeviceFault → Type 0
IsWithinBefore d Rate = Unit {0}
IsWithinBefore d Base = IsRate d.rate
IsWithinBefore d Hold = IsRate d.rate × IsBase d.rate d.base
IsWithinBefore d NoOutput = IsRate d.rate × IsBase d.rate d.base × (d.hold ≤ MOST_HOLD)
IsWithinBefore d ManyInputs = IsRate d.rate × IsBase d.rate d.base × (d.hold ≤ MOST_HOLD)
    × (1 ≤ length d.outputs)
IsWithinBefore d ManyOutputs = IsRate d.rate × IsBase d.rate d.base × (d.hold ≤ MOST_HOLD)
    × (1 ≤ length d.outputs) × (length d.inputs ≤ MOST_INPUTS)
IsWithinBefore d (Id slot) = HasBounds d
IsWithinBefore d (DoubleId slot) = HasBounds d × All (λ i. IsId i.id) d.inputs
    × All (λ o. IsId o.id) d.outputs
IsWithinBefore d (Channels slot) = HasBounds d × HasIds d
IsWithinBefore d (PayloadType slot) = HasBounds d × HasIds d
    × All (λ i. AreChannels i.labels) d.inputs × All (λ o. AreChannels o.labels) d.outputs
IsWithinBefore d ManyChannels = HasBounds d × HasIds d × All (λ i. AreChannels i.labels) d.inputs
    × All (λ o. AreChannels o.labels) d.outputs × All (λ i. IsPayloadType i.payload_type) d.inputs
    × All (λ o. IsPayloadType o.payload_type) d.outputs
IsWithinBefore d (Block input) = HasBounds d × HasIds d × HasStreams d
IsWithinBefore d (Payload output) = HasBounds d × HasIds d × HasStreams d
    × All HasWholeBlocks d.inputs
IsWithinBefore d (Unknown output) = HasBounds d × HasIds d × HasStreams d
    × All HasWholeBlocks d.inputs × All (FitsPacket d.rate) d.outputs

-- the first fault of the parts, in the order of the variants
pub record IsFirstFault (d : DeviceParts) (fault : DeviceFault) : Type 0 where
  pub broken : IsBroken d fault
  pub before : IsWithinBefore d fault
