-- The device of many streams is refused for what that of the first seventeen is.
use Rattle.std.proofs.Common.{◌≡◌, ◌≢◌, ℕ, suc, ◌+◌, ◌<◌, ◌≤◌, List, [], ◌∷◌, length, take, map, refl, ap, ◌∙◌, subst, sym, arith, inl, inr, take_all, length-take}
use Rattle.std.specs.List.{enumerate_from}
use Rattle.std.proofs.lemmas.Bool.{cases_lt}
use Rattle.io_caps.specs.declared.limits.TheConstants.{MOST_INPUTS}
use Rattle.io_caps.specs.Device.{IsDevice, HasBounds}
use Rattle.io_caps.specs.Fault.{IsFirstFault}
use Rattle.io_caps.specs.declared.fault.DeviceFault.{DeviceFault}
use Rattle.io_caps.specs.declared.fault.DeviceFault.TheVariants.{Rate, Base, Hold, NoOutput, ManyInputs, ManyOutputs}
use Rattle.io_caps.specs.declared.fault.DeviceFault.TheVariants.{Id, DoubleId, Channels, PayloadType, ManyChannels, Block, Payload, Unknown}
use Rattle.sdp_audio.specs.declared.stream.Stream.{Stream}
use Rattle.io_caps.specs.Memory.{IsFaultAnd}
use Rattle.io_caps.specs.declared.device.DeviceParts.{DeviceParts}
use Rattle.io_caps.specs.declared.memory.Or.{Or}
use Rattle.io_caps.specs.declared.memory.Or.TheVariants.{Fault, NoMemory}
use Rattle.sdp_audio.specs.declared.fault.MakeFault.TheVariants.{Device}
use Rattle.sdp_audio.specs.Fault.{IfFault}
use Rattle.sdp_audio.specs.Made.{parts_of, stream_input, stream_output, first_hz, HasOneRate, IsMakeFault}

length_made : {A X : Type 0} (make : ℕ × A → X) (n : ℕ) (xs : List A) → length (map make (enumerate_from n xs)) ≡ length xs
length_made make n [] = refl
length_made make n (x ∷ xs) = ap suc (length_made make (n + 1) xs)

-- too many inputs, and each has as many
abbrev AreMany : List Stream → Type 0
AreMany streams = 16 < length streams

unbounded : (streams : List Stream) (hz frames : ℕ) → AreMany streams → HasBounds (parts_of streams hz frames) → ⊥
unbounded streams hz frames many bounds = omega (arith, many, bounds.few_inputs, length_made stream_input 1 streams)

-- what one list of too many is refused for, another one is
many_fault : (few all : List Stream) (hz frames : ℕ) (fault : DeviceFault) → AreMany few → AreMany all
    → IsFirstFault (parts_of few hz frames) fault → IsFirstFault (parts_of all hz frames) fault
many_fault few all hz frames Rate f a is = record { broken = is.broken; before = is.before }
many_fault few all hz frames Base f a is = record { broken = is.broken; before = is.before }
many_fault few all hz frames Hold f a is = record { broken = is.broken; before = is.before }
many_fault few all hz frames NoOutput f a is = absurd (omega (arith, f, is.broken, length_made stream_output 1 few))
many_fault few all hz frames ManyInputs f a is = record {
  broken = omega (arith, a, length_made stream_input 1 all);
  before = (is.before.0, is.before.1, is.before.2, omega (arith, a, length_made stream_output 1 all));
}
many_fault few all hz frames ManyOutputs f a is = absurd (omega (arith, f, is.before.4, length_made stream_input 1 few))
many_fault few all hz frames (Id slot) f a is = absurd (unbounded few hz frames f is.before)
many_fault few all hz frames (DoubleId slot) f a is = absurd (unbounded few hz frames f is.before.0)
many_fault few all hz frames (Channels slot) f a is = absurd (unbounded few hz frames f is.before.0)
many_fault few all hz frames (PayloadType slot) f a is = absurd (unbounded few hz frames f is.before.0)
many_fault few all hz frames ManyChannels f a is = absurd (unbounded few hz frames f is.before.0)
many_fault few all hz frames (Block input) f a is = absurd (unbounded few hz frames f is.before.0)
many_fault few all hz frames (Payload output) f a is = absurd (unbounded few hz frames f is.before.0)
many_fault few all hz frames (Unknown output) f a is = absurd (unbounded few hz frames f is.before.0)

-- what the first seventeen streams are refused for, all are
pub deciding_fault : (streams : List Stream) (hz frames : ℕ) (fault : DeviceFault)
    → IsFirstFault (parts_of (take 17 streams) hz frames) fault → IsFirstFault (parts_of streams hz frames) fault
deciding_fault streams hz frames fault is = elim (cases_lt 16 (length streams)) [
  | inl many ↦ many_fault (take 17 streams) streams hz frames fault (omega (arith, many, length-take 17 streams)) many is
  | inr few ↦ subst (λ (s : List Stream). IsFirstFault (parts_of s hz frames) fault) (take_all 17 streams (omega (arith, few))) is
]

-- a device of the first seventeen is the device of all
pub deciding_device : (streams : List Stream) (hz frames : ℕ) → IsDevice (parts_of (take 17 streams) hz frames)
    → take 17 streams ≡ streams
deciding_device streams hz frames is = elim (cases_lt 16 (length streams)) [
  | inl many ↦ absurd (unbounded (take 17 streams) hz frames (omega (arith, many, length-take 17 streams)) is.bounds)
  | inr few ↦ take_all 17 streams (omega (arith, few))
]

-- ---- what the functions owe

-- the parts of the first seventeen, where they are a device's
pub device_of_few : (streams few : List Stream) (hz frames : ℕ) (parts : DeviceParts) → few ≡ take 17 streams
    → parts ≡ parts_of few hz frames → IsDevice parts → parts ≡ parts_of streams hz frames
device_of_few streams few hz frames parts e p is =
    let seventeen : parts ≡ parts_of (take 17 streams) hz frames = p ∙ ap (λ (s : List Stream). parts_of s hz frames) e in
    seventeen ∙ ap (λ (s : List Stream). parts_of s hz frames) (deciding_device streams hz frames (subst IsDevice seventeen is))

-- their fault, where they are none's
pub fault_of_few : (streams few : List Stream) (hz frames : ℕ) (parts : DeviceParts) (error : Or DeviceFault) → few ≡ take 17 streams
    → parts ≡ parts_of few hz frames → IsFaultAnd error (IsFirstFault parts) → IfFault error (IsFirstFault (parts_of streams hz frames))
fault_of_few streams few hz frames parts (Fault fault) e p is =
    let seventeen : parts ≡ parts_of (take 17 streams) hz frames = p ∙ ap (λ (s : List Stream). parts_of s hz frames) e in
    deciding_fault streams hz frames fault (subst (λ (d : DeviceParts). IsFirstFault d fault) seventeen is)
fault_of_few streams few hz frames parts NoMemory e p is = tt

-- the fault of the device
pub make_fault : (streams all : List Stream) (hz frames : ℕ) (fault : DeviceFault) → streams ≡ all → streams ≢ [] → HasOneRate streams
    → hz ≡ first_hz streams → IsFirstFault (parts_of streams hz frames) fault → IsMakeFault all frames (Device fault)
make_fault streams all hz frames fault e some one is_hz is =
    subst (λ (s : List Stream). IsMakeFault s frames (Device fault)) e
    (some, one, subst (λ (h : ℕ). IsFirstFault (parts_of streams h frames) fault) is_hz is)
