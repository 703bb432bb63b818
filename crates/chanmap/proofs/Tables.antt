-- What holds of each command, a line each.
use Rattle.std.proofs.Common.{◌≡◌, ℕ, ◌<◌, ◌≤◌, List, ◌++◌, length, Option, Some, None}
use Rattle.std.proofs.Common.{refl, sym, ap, ◌∙◌, arith, lit<}
use Rattle.std.specs.Prelude.{Contains}
use Rattle.std.proofs.lemmas.List.{append-nil, length-append}
use Rattle.chan_io.specs.Streams.{WholeRead, LongRead}
use Rattle.capture_file.specs.declared.fault.CaptureKind.{CaptureKind}
use Rattle.chanmap.specs.declared.command.Command.{Command}
use Rattle.chanmap.specs.declared.command.Command.TheVariants.{Serial, Sdp, FromSdp}
use Rattle.chanmap.specs.declared.input.TheConstants.{MOST_BYTES}
use Rattle.chanmap.specs.declared.end.SdpRefusal.{SdpRefusal}
use Rattle.chanmap.specs.declared.end.End.{End}
use Rattle.chanmap.specs.declared.end.End.TheVariants.{Usage, ReadFault, WriteFault, Refused}
use Rattle.chanmap.specs.declared.end.End.TheVariants.{TooLong, SdpRefused, NoMemory}
use Rattle.chanmap.specs.End.{status_of}
use Rattle.chanmap.specs.World.{World}
use Rattle.chanmap.specs.Top.{HasRead, Holds, IsAnswer, IsCause, IsFaultAt, IsInput, IsRefusal}
use Rattle.chanmap.specs.Top.{statuses_of}
use Rattle.chanmap.proofs.Descriptions.{input_has_none}

-- ---- sources that are read to their end

-- what was read to the end is what the source told
whole_told : (held : List ℕ) (old new : Option (List ℕ)) (bytes : List ℕ) → old ≡ Some held
    → WholeRead old new MOST_BYTES bytes → bytes ≡ held
whole_told held None new bytes told read = absurd cc
whole_told held (Some all) None bytes told read = absurd read.alike
whole_told held (Some all) (Some rest) bytes told read =
    let same : all ≡ held = cc in
    sym (read.read ∙ ap (λ (behind : List ℕ). bytes ++ behind) read.ended ∙ append-nil bytes) ∙ same

-- what more than the most was read of is longer
long_told : (held : List ℕ) (old new : Option (List ℕ)) → old ≡ Some held
    → LongRead old new MOST_BYTES → MOST_BYTES < length held
long_told held None new told long = absurd cc
long_told held (Some all) None told long = absurd long.alike
long_told held (Some all) (Some rest) told long =
    let same : all ≡ held = cc in
    omega (arith, ap length same, ap length long.read, length-append long.bytes rest, long.long)

-- ---- the commands

-- 0 is a status of the command
pub well_known : (command : Command) → Contains (statuses_of command) 0
well_known Serial = (0, lit< tt, refl)
well_known Sdp = (0, lit< tt, refl)
well_known (FromSdp frames) = (0, lit< tt, refl)

-- so is that of each end that the command has a cause for
pub known : (command : Command) (before after : World) (end : End)
    → IsCause command before after end → Contains (statuses_of command) (status_of end)
known Serial before after Usage cause = absurd cause
known Serial before after ReadFault cause = (1, lit< tt, refl)
known Serial before after WriteFault cause = (2, lit< tt, refl)
known Serial before after (Refused fault) cause = (3, lit< tt, refl)
known Serial before after TooLong cause = (4, lit< tt, refl)
known Serial before after NoMemory cause = (5, lit< tt, refl)
known Serial before after (SdpRefused refusal) cause = absurd cause.refused
known Sdp before after Usage cause = absurd cause
known Sdp before after ReadFault cause = (1, lit< tt, refl)
known Sdp before after WriteFault cause = (2, lit< tt, refl)
known Sdp before after (Refused fault) cause = (3, lit< tt, refl)
known Sdp before after TooLong cause = (4, lit< tt, refl)
known Sdp before after NoMemory cause = (5, lit< tt, refl)
known Sdp before after (SdpRefused refusal) cause = absurd cause.refused
known (FromSdp frames) before after Usage cause = absurd cause
known (FromSdp frames) before after ReadFault cause = (1, lit< tt, refl)
known (FromSdp frames) before after WriteFault cause = (2, lit< tt, refl)
known (FromSdp frames) before after (Refused fault) cause = absurd cause.faulty.first
known (FromSdp frames) before after TooLong cause = (3, lit< tt, refl)
known (FromSdp frames) before after (SdpRefused refusal) cause = (4, lit< tt, refl)
known (FromSdp frames) before after NoMemory cause = (5, lit< tt, refl)

-- the command read what the outside held for it
pub held : (command : Command) (before after : World) (bytes told : List ℕ)
    → HasRead command before after bytes → Holds command before told → bytes ≡ told
held Serial before after bytes told read holds =
    whole_told told before.left after.left bytes holds read
held Sdp before after bytes told read holds =
    whole_told told before.left after.left bytes holds read
held (FromSdp frames) before after bytes told read holds =
    whole_told told before.left after.left bytes holds read

-- it read no more than the most
pub short : (command : Command) (before after : World) (bytes : List ℕ)
    → HasRead command before after bytes → length bytes ≤ MOST_BYTES
short Serial before after bytes read = read.short
short Sdp before after bytes read = read.short
short (FromSdp frames) before after bytes read = read.short

-- where more was read, more was held
pub longer : (command : Command) (before after : World) (told : List ℕ)
    → LongRead before.left after.left MOST_BYTES → Holds command before told
    → MOST_BYTES < length told
longer Serial before after told long holds = long_told told before.left after.left holds long
longer Sdp before after told long holds = long_told told before.left after.left holds long
longer (FromSdp frames) before after told long holds =
    long_told told before.left after.left holds long

-- what gets an answer has no fault
pub sound : (command : Command) (bytes text : List ℕ) (at : ℕ) (kind : CaptureKind)
    → IsAnswer command bytes text → IsFaultAt command bytes at kind → ⊥
sound Serial bytes text at kind answer fault = answer.input.sound at kind fault
sound Sdp bytes text at kind answer fault = answer.input.sound at kind fault
sound (FromSdp frames) bytes text at kind answer fault = absurd fault

-- what gets an answer is an input
pub answered_input : (command : Command) (bytes text : List ℕ) → IsAnswer command bytes text
    → IsInput command bytes
answered_input Serial bytes text answer = (answer.capture, answer.input.read)
answered_input Sdp bytes text answer = (answer.capture, answer.input.read)
answered_input (FromSdp frames) bytes text answer = answer.input

-- of an input a capture is made
pub made : (command : Command) (bytes : List ℕ) (refusal : SdpRefusal) → IsInput command bytes
    → IsRefusal command bytes refusal → ⊥
made Serial bytes refusal input refused = refused
made Sdp bytes refusal input refused = refused
made (FromSdp frames) bytes refusal input refused = input_has_none frames bytes refusal input refused

-- no command has both a fault at a place and a reason why no capture is made
pub one_way : (command : Command) (bytes other : List ℕ) (at : ℕ) (kind : CaptureKind)
    (refusal : SdpRefusal) → IsFaultAt command bytes at kind → IsRefusal command other refusal → ⊥
one_way Serial bytes other at kind refusal fault refused = refused
one_way Sdp bytes other at kind refusal fault refused = refused
one_way (FromSdp frames) bytes other at kind refusal fault refused = fault
