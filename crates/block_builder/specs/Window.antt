-- The builder's window: slots of ticks, rising, each with what its tick holds so far. (This
-- project's own.)
use Rattle.std.specs.Prelude.{◌≡◌, ◌≢◌, ℕ, ◌+◌, ◌-◌, ◌*◌, ◌^◌, ◌<◌, ◌≤◌, Bool, false, if◌then◌else◌}
use Rattle.std.specs.Prelude.{◌&&◌, true, drop, not, nat_lt, List, [], ◌∷◌, length, map, Some, None}
use Rattle.std.specs.Prelude.{is_some}
use Rattle.std.specs.Prelude.{IfSome, ℤ, ◌⊎◌, slice_index_or}
use Rattle.std.specs.List.{count_by, range_with_len, sum_by}
use Rattle.std.specs.Option.{option_or}
use Rattle.io_caps.specs.declared.limits.TheConstants.{MOST_CHANNELS, MOST_FRAMES, MOST_HOLD}
use Rattle.io_caps.specs.declared.limits.TheConstants.{SESSION_TICKS}
use Rattle.block_builder.specs.declared.intake.Intake.{Intake}
use Rattle.block_builder.specs.declared.slot.Slot.{Slot}
use Rattle.block_builder.specs.Blocks.{Piece, Held, IsBlock, covers, frame_bytes, piece_frame}
use Rattle.block_builder.specs.Blocks.{tick_place}
use Rattle.block_builder.specs.Blocks.{tick_samples}

-- the numbers of an intake are those of a device and a session within their limits
pub record IsIntake (n : Intake) : Type 0 where
  pub channels : (1 ≤ n.channels) × (n.channels ≤ MOST_CHANNELS)
  pub frames : (1 ≤ n.frames) × (n.frames ≤ MOST_FRAMES)
  pub hold : n.hold ≤ MOST_HOLD
  pub ticks : n.ticks ≤ SESSION_TICKS
  pub last : n.base + SESSION_TICKS < 2 ^ 64

-- ---- one tick

-- what a frame of a tick holds once a packet came while the tick was open
abbrev pub added : Intake → Piece → ℕ → Held → Held
added n p tick held frame =
    let place = tick_place n tick + frame in
    option_or (held frame) (if covers place p then Some (piece_frame n place p) else None)

-- the same where only the frames below one were added
abbrev pub added_below : ℕ → Intake → Piece → ℕ → Held → Held
added_below upto n p tick held frame =
    if nat_lt frame upto then added n p tick held frame else held frame

-- which frames of a tick hold something
abbrev pub held_flags : Intake → Held → List Bool
held_flags n held = map (λ frame. is_some (held frame)) (range_with_len 0 n.frames)

-- samples and flags show what the frames of a tick hold
pub record IsShown (n : Intake) (held : Held) (samples : List ℤ) (flags : List Bool) : Type 0 where
  pub samples_are : samples ≡ tick_samples n held
  pub flags_are : flags ≡ held_flags n held
  pub whole : (frame : ℕ) → frame < n.frames → IfSome (held frame) (λ x. length x ≡ n.channels)

-- no frame of a tick holds anything
abbrev pub IsAbsent : Intake → Held → Type 0
IsAbsent n held = (frame : ℕ) → frame < n.frames → held frame ≡ None

-- samples and flags that show that
abbrev pub IsBlank : Intake → List ℤ → List Bool → Type 0
IsBlank n samples flags = (held : Held) → IsAbsent n held → IsShown n held samples flags

-- a packet covers no frame of a tick
abbrev pub IsUntouched : Intake → Piece → ℕ → Type 0
IsUntouched n p tick = (frame : ℕ) → frame < n.frames → covers (tick_place n tick + frame) p ≡ false

-- what a packet has from the first frame of a tick on, all of whose frames it covers
pub record IsTickPart (n : Intake) (p : Piece) (tick : ℕ) (part : List ℕ) : Type 0 where
  pub covered : (frame : ℕ) → frame < n.frames → covers (tick_place n tick + frame) p ≡ true
  pub after : p.first ≤ tick_place n tick
  pub part_is : part ≡ drop ((tick_place n tick - p.first) * frame_bytes n) p.payload
  pub there : n.frames * frame_bytes n ≤ length part

-- whether a packet would be the first to hold a frame of a tick
abbrev pub is_fresh : Intake → Piece → ℕ → Held → ℕ → Bool
is_fresh n p tick held frame = covers (tick_place n tick + frame) p && not (is_some (held frame))

-- how many frames of a tick that is
abbrev pub fresh_at : Intake → Piece → ℕ → Held → ℕ
fresh_at n p tick held = count_by (is_fresh n p tick held) (range_with_len 0 n.frames)

-- a packet was put into what shows a tick
abbrev pub IsAdded : Intake → Piece → ℕ → List ℤ → List Bool → List ℤ → List Bool → Type 0
IsAdded n p tick samples flags new_samples new_flags =
    (held : Held) → IsShown n held samples flags
    → IsShown n (added n p tick held) new_samples new_flags

-- a given number of its frames are the first
abbrev pub IsFreshCount : Intake → Piece → ℕ → List ℤ → List Bool → ℕ → Type 0
IsFreshCount n p tick samples flags count =
    (held : Held) → IsShown n held samples flags → count ≡ fresh_at n p tick held

-- ---- slots

-- a slot has a sample of 24 bits for each channel of each frame, and a flag for each frame
pub record IsSlot (n : Intake) (s : Slot) : Type 0 where
  pub block : IsBlock n s.samples.items
  pub flags : length s.held.items ≡ n.frames

-- a slot into which the frames of a packet were put
pub record IsPut (n : Intake) (p : Piece) (old new : Slot) : Type 0 where
  pub same_tick : new.tick ≡ old.tick
  pub slot : IsSlot n new
  pub shown : IsAdded n p old.tick old.samples.items old.held.items new.samples.items new.held.items

-- a slot of a tick is there
abbrev pub HasTick : ℕ → List Slot → Type 0
HasTick tick [] = ⊥
HasTick tick (s ∷ ss) = (s.tick ≡ tick) ⊎ HasTick tick ss

-- so is one of each tick of a range
abbrev pub HasTicks : ℕ → ℕ → List Slot → Type 0
HasTicks from to slots = (tick : ℕ) → from ≤ tick → tick < to → HasTick tick slots

-- the slot at a place is there, and is a tick's
abbrev pub IsTickAt : ℕ → ℕ → List Slot → Type 0
IsTickAt tick at slots =
    (at < length slots) × ((d : Slot) → (slice_index_or slots at d).tick ≡ tick)

-- it is another's, where it is there
abbrev pub IsOtherAt : ℕ → ℕ → List Slot → Type 0
IsOtherAt tick at slots = (d : Slot) → at < length slots → (slice_index_or slots at d).tick ≢ tick

-- the slots from a place on are not before a tick, and the one in front of the place is
abbrev pub IsCut : ℕ → ℕ → List Slot → Type 0
IsCut tick at slots =
    ((k : ℕ) (d : Slot) → at ≤ k → k < length slots → tick ≤ (slice_index_or slots k d).tick)
    × ((k : ℕ) (d : Slot) → k + 1 ≡ at → (slice_index_or slots k d).tick < tick)

-- the first slot is a tick's
abbrev pub IsFirst : ℕ → List Slot → Type 0
IsFirst tick [] = ⊥
IsFirst tick (s ∷ ss) = s.tick ≡ tick

-- the first slot is not
abbrev pub IsPast : ℕ → List Slot → Type 0
IsPast tick [] = Unit {0}
IsPast tick (s ∷ ss) = s.tick ≢ tick

-- ---- the window

-- what each tick holds
abbrev pub Meaning : Type 0
Meaning = ℕ → Held

-- what each tick holds once a packet came while it was open
abbrev pub added_all : Intake → Piece → Meaning → Meaning
added_all n p m tick = added n p tick (m tick)

-- The slots show what the ticks from one on hold: they rise, each shows what its tick holds, and a
-- tick of the session without a slot holds nothing.
abbrev pub IsWindow : Intake → Meaning → ℕ → List Slot → Type 0
IsWindow n m from [] = (tick : ℕ) → from ≤ tick → tick < n.ticks → IsAbsent n (m tick)
IsWindow n m from (s ∷ ss) =
    (from ≤ s.tick) × (s.tick < n.ticks)
    × ((tick : ℕ) → from ≤ tick → tick < s.tick → IsAbsent n (m tick))
    × IsShown n (m s.tick) s.samples.items s.held.items × IsWindow n m (s.tick + 1) ss

-- new slots show all that the old ones show
abbrev pub ShowsAlike : Intake → ℕ → List Slot → List Slot → Type 0
ShowsAlike n from old new = (m : Meaning) → IsWindow n m from old → IsWindow n m from new

-- the same from any tick that is not past a range of the session
abbrev pub ShowsAlikeBefore : Intake → ℕ → ℕ → List Slot → List Slot → Type 0
ShowsAlikeBefore n from to old new =
    (first : ℕ) → first ≤ from → to ≤ n.ticks → ShowsAlike n first old new

-- new slots show that and a packet put into it
abbrev pub ShowsAdded : Intake → Piece → ℕ → List Slot → List Slot → Type 0
ShowsAdded n p from old new =
    (m : Meaning) → IsWindow n m from old → IsWindow n (added_all n p m) from new

-- how many frames of the slots' ticks a packet would be the first to hold
abbrev pub fresh_in : Intake → Piece → Meaning → List Slot → ℕ
fresh_in n p m slots = sum_by (λ s. fresh_at n p s.tick (m s.tick)) slots

-- of all ticks of the session from one on
abbrev pub fresh_from : Intake → Piece → Meaning → ℕ → ℕ
fresh_from n p m from =
    sum_by (λ tick. fresh_at n p tick (m tick)) (range_with_len from (n.ticks - from))
