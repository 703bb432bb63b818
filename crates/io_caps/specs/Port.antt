-- The limits of one input or output. (This project's own, after what AMWA IS-08 v1.0 tells of an
-- input or output and its caps: `/inputs/{id}` and `/outputs/{id}`.)
use Rattle.std.specs.Prelude.{◌≡◌, ℕ, ◌*◌, ◌%◌, ◌<◌, ◌≤◌, ◌⊎◌, List}
use Rattle.std.specs.Prelude.{length, All, Option, Some, None}
use Rattle.io_caps.specs.declared.limits.TheConstants.{MOST_ID_BYTES, MOST_CHANNELS}
use Rattle.io_caps.specs.declared.limits.TheConstants.{MOST_PAYLOAD_TYPE, MOST_PAYLOAD}
use Rattle.io_caps.specs.Rate.{bytes_per_sample}
use Rattle.io_caps.specs.declared.rate.Rate.{Rate}
use Rattle.io_caps.specs.declared.port.Routable.{Routable}
use Rattle.io_caps.specs.declared.port.Routable.TheVariants.{All as Anything, Only}
use Rattle.io_caps.specs.declared.port.Input.{Input}
use Rattle.io_caps.specs.declared.port.Output.{Output}

-- a lowest and a highest byte, and what lies between them
abbrev pub IsBetween : ℕ → ℕ → ℕ → Type 0
IsBetween low high b = (low ≤ b) × (b ≤ high)

-- an ASCII digit, capital or small letter, '-' or '_'
abbrev pub IsIdByte : ℕ → Type 0
IsIdByte b = IsBetween 48 57 b ⊎ IsBetween 65 90 b ⊎ IsBetween 97 122 b ⊎ (b ≡ 45) ⊎ (b ≡ 95)

-- 1 to 32 such bytes
abbrev pub IsId : List ℕ → Type 0
IsId id = (1 ≤ length id) × (length id ≤ MOST_ID_BYTES) × All IsIdByte id

-- 1 to 64 channels; a channel is a label
abbrev pub AreChannels : List (List ℕ) → Type 0
AreChannels labels = (1 ≤ length labels) × (length labels ≤ MOST_CHANNELS)

-- a payload type has 7 bits (RFC 3550, section 5.1)
abbrev pub IsPayloadType : ℕ → Type 0
IsPayloadType t = t ≤ MOST_PAYLOAD_TYPE

-- the channels of an input are whole channel blocks
abbrev pub HasWholeBlocks : Input → Type 0
HasWholeBlocks i = (1 ≤ i.block_size) × (length i.labels % i.block_size ≡ 0)

-- the samples of a tick fit into one packet
abbrev pub FitsPacket : Rate → Output → Type 0
FitsPacket r o = r.frames * length o.labels * bytes_per_sample o.width ≤ MOST_PAYLOAD

-- a choice of what may be routed, of a given number of inputs: no input, or one that is there
abbrev pub IsChoice : ℕ → Option ℕ → Type 0
IsChoice inputs None = Unit {0}
IsChoice inputs (Some input) = input < inputs

-- a list of choices names inputs that are there
abbrev pub IsRoutable : ℕ → Routable → Type 0
IsRoutable inputs Anything = Unit {0}
IsRoutable inputs (Only choices) = All (IsChoice inputs) choices
