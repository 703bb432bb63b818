-- The limits of a device. (This project's own.)
use Rattle.std.specs.Prelude.{◌≢◌, ℕ, ◌+◌, ◌*◌, ◌<◌, ◌≤◌, length, All}
use Rattle.std.specs.List.{AllPairs, sum_by}
use Rattle.io_caps.specs.declared.limits.TheConstants.{MOST_INPUTS, MOST_OUTPUTS}
use Rattle.io_caps.specs.declared.limits.TheConstants.{MOST_INPUT_CHANNELS, MOST_HOLD}
use Rattle.io_caps.specs.declared.limits.TheConstants.{TICKS_PAST_BASE, SECONDS_OF_TIME}
use Rattle.io_caps.specs.Port.{IsId, AreChannels, IsPayloadType}
use Rattle.io_caps.specs.Port.{HasWholeBlocks, FitsPacket, IsRoutable}
use Rattle.io_caps.specs.Rate.{IsRate}
use Rattle.io_caps.specs.declared.rate.Rate.{Rate}
use Rattle.io_caps.specs.declared.device.DeviceParts.{DeviceParts}

-- the first tick, and 2^23 ticks from it, start before the end of time
abbrev pub IsBase : Rate → ℕ → Type 0
IsBase r base = (base + TICKS_PAST_BASE) * r.frames < r.hz * SECONDS_OF_TIME

-- the rate, the first tick, and how many inputs and outputs there are
pub record HasBounds (d : DeviceParts) : Type 0 where
  pub rate : IsRate d.rate
  pub base : IsBase d.rate d.base
  pub hold : d.hold ≤ MOST_HOLD
  pub some_output : 1 ≤ length d.outputs
  pub few_inputs : length d.inputs ≤ MOST_INPUTS
  pub few_outputs : length d.outputs ≤ MOST_OUTPUTS

-- the ids, of which no two are alike on one side
pub record HasIds (d : DeviceParts) : Type 0 where
  pub inputs : All (λ i. IsId i.id) d.inputs
  pub outputs : All (λ o. IsId o.id) d.outputs
  pub distinct_inputs : AllPairs (λ i j. i.id ≢ j.id) d.inputs
  pub distinct_outputs : AllPairs (λ o p. o.id ≢ p.id) d.outputs

-- the channels and the payload types
pub record HasStreams (d : DeviceParts) : Type 0 where
  pub inputs : All (λ i. AreChannels i.labels) d.inputs
  pub outputs : All (λ o. AreChannels o.labels) d.outputs
  pub input_types : All (λ i. IsPayloadType i.payload_type) d.inputs
  pub output_types : All (λ o. IsPayloadType o.payload_type) d.outputs
  pub together : sum_by (λ i. length i.labels) d.inputs ≤ MOST_INPUT_CHANNELS

-- the channel blocks of the inputs, the packets of the outputs, and what may be routed to them
pub record HasRoutes (d : DeviceParts) : Type 0 where
  pub blocks : All HasWholeBlocks d.inputs
  pub packets : All (FitsPacket d.rate) d.outputs
  pub routable : All (λ o. IsRoutable (length d.inputs) o.routable) d.outputs

-- a device within its limits
pub record IsDevice (d : DeviceParts) : Type 0 where
  pub bounds : HasBounds d
  pub ids : HasIds d
  pub streams : HasStreams d
  pub routes : HasRoutes d
