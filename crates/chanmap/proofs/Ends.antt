-- How a run ends, from how its command did.
use Rattle.std.proofs.Common.{◌≡◌, ℕ, ◌+◌, ◌<◌, ◌≤◌, List, length, Option, Some, inl, inr, refl}
use Rattle.std.proofs.Common.{sym, ap, subst, arith}
use Rattle.std.specs.Prelude.{◌⊎◌}
use Rattle.chan_io.specs.Streams.{BoundedRead}
use Rattle.capture_file.specs.declared.fault.CaptureKind.{CaptureKind}
use Rattle.chanmap.specs.declared.command.Command.{Command}
use Rattle.chanmap.specs.declared.input.TheConstants.{MOST_BYTES}
use Rattle.chanmap.specs.declared.end.SdpRefusal.{SdpRefusal}
use Rattle.chanmap.specs.declared.end.End.{End}
use Rattle.chanmap.specs.declared.end.End.TheVariants.{Usage, ReadFault, WriteFault, Refused}
use Rattle.chanmap.specs.declared.end.End.TheVariants.{TooLong, SdpRefused, NoMemory}
use Rattle.chanmap.specs.End.{IsToldEnd, status_of}
use Rattle.chanmap.specs.World.{World, LineFailed, ReadFailed, WriteFailed}
use Rattle.chanmap.specs.Top.{HasRead, Holds, IsAnswer, IsCause, IsDone, IsFaultAt, IsInput, IsRun}
use Rattle.chanmap.specs.Top.{IsRefusal, IsRunOf}
use Rattle.chanmap.proofs.Tables.{answered_input, held, known, longer, made, one_way, short, sound}
use Rattle.chanmap.proofs.Tables.{well_known}

-- ---- what cannot be

-- what was held and got an answer has no fault
answered : (command : Command) (before after : World) (bytes told text : List ℕ) (at : ℕ)
    (kind : CaptureKind) → HasRead command before after bytes → Holds command before told
    → IsAnswer command bytes text → IsFaultAt command told at kind → ⊥
answered command before after bytes told text at kind read holds answer fault =
    let same = held command before after bytes told read holds in
    sound command told text at kind
    (subst (λ (b : List ℕ). IsAnswer command b text) same answer) fault

-- and a capture is made of it
taken : (command : Command) (before after : World) (bytes told text : List ℕ)
    (refusal : SdpRefusal) → HasRead command before after bytes → Holds command before told
    → IsAnswer command bytes text → IsRefusal command told refusal → ⊥
taken command before after bytes told text refusal read holds answer refused =
    let same = held command before after bytes told read holds in
    made command told refusal
    (answered_input command told text
    (subst (λ (b : List ℕ). IsAnswer command b text) same answer)) refused

-- what was held and read is not too long
shorter : (command : Command) (before after : World) (bytes told : List ℕ)
    → HasRead command before after bytes → Holds command before told
    → MOST_BYTES < length told → ⊥
shorter command before after bytes told read holds long =
    let same = ap length (held command before after bytes told read holds) in
    omega (arith, same, short command before after bytes read, long)

-- ---- which status comes

-- an input gets its answer
completes : (command : Command) (before after : World) (end : End) (told : List ℕ)
    → IsCause command before after end → Holds command before told → length told ≤ MOST_BYTES
    → IsInput command told → (ReadFailed before after → ⊥) → (WriteFailed before after → ⊥)
    → (status_of end ≡ 0) ⊎ (status_of end ≡ 12)
completes command before after Usage told cause holds fits input calm quiet = absurd cause
completes command before after ReadFault told cause holds fits input calm quiet =
    absurd (calm cause.0)
completes command before after WriteFault told cause holds fits input calm quiet =
    absurd (quiet cause.0)
completes command before after (Refused fault) told cause holds fits input calm quiet =
    let same = held command before after cause.bytes told cause.read holds in
    absurd (cause.faulty.none (subst (IsInput command) (sym same) input))
completes command before after TooLong told cause holds fits input calm quiet =
    let long = longer command before after told cause holds in absurd (omega (arith, long, fits))
completes command before after (SdpRefused refusal) told cause holds fits input calm quiet =
    let same = held command before after cause.bytes told cause.read holds in
    absurd (made command cause.bytes refusal (subst (IsInput command) (sym same) input)
    cause.refused)
completes command before after NoMemory told cause holds fits input calm quiet = inr refl

-- bytes with a fault are refused
refuses : (command : Command) (before after : World) (end : End) (told : List ℕ) (at : ℕ)
    (kind : CaptureKind) → IsCause command before after end → Holds command before told
    → length told ≤ MOST_BYTES → IsFaultAt command told at kind → (ReadFailed before after → ⊥)
    → (status_of end ≡ 5) ⊎ (status_of end ≡ 12)
refuses command before after Usage told at kind cause holds fits fault calm = absurd cause
refuses command before after ReadFault told at kind cause holds fits fault calm =
    absurd (calm cause.0)
refuses command before after WriteFault told at kind cause holds fits fault calm =
    let cut = cause.1 in
    absurd (answered command before after cut.bytes told cut.given.text at kind cut.read holds
    cut.given.answer fault)
refuses command before after (Refused other) told at kind cause holds fits fault calm = inl refl
refuses command before after TooLong told at kind cause holds fits fault calm =
    let long = longer command before after told cause holds in absurd (omega (arith, long, fits))
refuses command before after (SdpRefused refusal) told at kind cause holds fits fault calm =
    absurd (one_way command told cause.bytes at kind refusal fault cause.refused)
refuses command before after NoMemory told at kind cause holds fits fault calm = inr refl

-- bytes of which no capture is made are refused
declines : (command : Command) (before after : World) (end : End) (told : List ℕ)
    (refusal : SdpRefusal) → IsCause command before after end → Holds command before told
    → length told ≤ MOST_BYTES → IsRefusal command told refusal → (ReadFailed before after → ⊥)
    → (status_of end ≡ 10) ⊎ (status_of end ≡ 12)
declines command before after Usage told refusal cause holds fits refused calm = absurd cause
declines command before after ReadFault told refusal cause holds fits refused calm =
    absurd (calm cause.0)
declines command before after WriteFault told refusal cause holds fits refused calm =
    let cut = cause.1 in
    absurd (taken command before after cut.bytes told cut.given.text refusal cut.read holds
    cut.given.answer refused)
declines command before after (Refused fault) told refusal cause holds fits refused calm =
    absurd (one_way command cause.bytes told fault.at fault.kind refusal cause.faulty.first refused)
declines command before after TooLong told refusal cause holds fits refused calm =
    let long = longer command before after told cause holds in absurd (omega (arith, long, fits))
declines command before after (SdpRefused other) told refusal cause holds fits refused calm =
    inl refl
declines command before after NoMemory told refusal cause holds fits refused calm = inr refl

-- more bytes than the most are too long
stops : (command : Command) (before after : World) (end : End) (told : List ℕ)
    → IsCause command before after end → Holds command before told → MOST_BYTES < length told
    → (ReadFailed before after → ⊥) → (status_of end ≡ 7) ⊎ (status_of end ≡ 12)
stops command before after Usage told cause holds long calm = absurd cause
stops command before after ReadFault told cause holds long calm = absurd (calm cause.0)
stops command before after WriteFault told cause holds long calm =
    absurd (shorter command before after cause.1.bytes told cause.1.read holds long)
stops command before after (Refused fault) told cause holds long calm =
    absurd (shorter command before after cause.bytes told cause.read holds long)
stops command before after TooLong told cause holds long calm = inl refl
stops command before after (SdpRefused refusal) told cause holds long calm =
    absurd (shorter command before after cause.bytes told cause.read holds long)
stops command before after NoMemory told cause holds long calm = inr refl

-- no end has the status of what is done
not_done : (end : End) → status_of end ≡ 0 → ⊥
not_done Usage is = absurd cc
not_done ReadFault is = absurd cc
not_done WriteFault is = absurd cc
not_done (Refused fault) is = absurd cc
not_done TooLong is = absurd cc
not_done (SdpRefused refusal) is = absurd cc
not_done NoMemory is = absurd cc

-- ---- runs

-- a command that ended well
ends_well : (command : Command) (before after : World) → IsDone command before after
    → BoundedRead before.left after.left (MOST_BYTES + 1) → IsRunOf command 0 before after
ends_well command before after done bounded = record {
  statuses = well_known command;
  done = λ is. done;
  failed = λ not. absurd (not refl);
  bounded = bounded;
  complete = λ told holds fits input calm quiet. inl refl;
  refuses = λ told at kind holds fits fault calm.
      absurd (answered command before after done.bytes told done.given.text at kind done.read holds
      done.given.answer fault);
  declines = λ told refusal holds fits refused calm.
      absurd (taken command before after done.bytes told done.given.text refusal done.read holds
      done.given.answer refused);
  stops = λ told holds long calm.
      absurd (shorter command before after done.bytes told done.read holds long);
}

-- a command that ended otherwise, and was told so
ends_badly : (command : Command) (before after : World) (end : End) (status : ℕ)
    → IsCause command before after end → BoundedRead before.left after.left (MOST_BYTES + 1)
    → IsToldEnd status before.told after.told (LineFailed before after) end
    → IsRunOf command status before after
ends_badly command before after end status cause bounded told = record {
  statuses = rw told.status_is (known command before after end cause);
  done = λ is. absurd (not_done end (rw told.status_is at is));
  failed = λ not. record { end = end; cause = cause; told = told };
  bounded = bounded;
  complete = λ bytes holds fits input calm quiet.
      rw told.status_is
      (completes command before after end bytes cause holds fits input calm quiet);
  refuses = λ bytes at kind holds fits fault calm.
      rw told.status_is
      (refuses command before after end bytes at kind cause holds fits fault calm);
  declines = λ bytes refusal holds fits refused calm.
      rw told.status_is
      (declines command before after end bytes refusal cause holds fits refused calm);
  stops = λ bytes holds long calm.
      rw told.status_is (stops command before after end bytes cause holds long calm);
}

-- a run whose command ended well,
pub runs_well : (found : Option Command) (command : Command) (before after : World)
    → found ≡ Some command → IsDone command before after
    → BoundedRead before.left after.left (MOST_BYTES + 1) → IsRun found 0 before after
runs_well found command before after is done bounded =
    subst (λ (f : Option Command). IsRun f 0 before after) (sym is)
    (ends_well command before after done bounded)

-- and one whose command ended otherwise, and was told so
pub runs_badly : (found : Option Command) (command : Command) (before after : World) (end : End)
    (status : ℕ) → found ≡ Some command → IsCause command before after end
    → BoundedRead before.left after.left (MOST_BYTES + 1)
    → IsToldEnd status before.told after.told (LineFailed before after) end
    → IsRun found status before after
runs_badly found command before after end status is cause bounded told =
    subst (λ (f : Option Command). IsRun f status before after) (sym is)
    (ends_badly command before after end status cause bounded told)
