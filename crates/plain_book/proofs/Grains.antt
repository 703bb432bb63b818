-- An activation counts from a frame that its tick has.
use Rattle.std.proofs.Common.{◌≡◌, ℕ, ◌+◌, ◌*◌, ◌/◌, ◌%◌, ◌^◌, ◌<◌, ◌≤◌, inl, inr, sym, ap, subst, arith}
use Rattle.std.specs.Prelude.{max}
use Rattle.std.proofs.Math.Nat.{mod-lt}
use Rattle.std.proofs.lemmas.Nat.{le-div}
use Rattle.std.proofs.lemmas.Bool.{cases_lt}
use Rattle.io_caps.specs.Device.{IsDevice}
use Rattle.io_caps.specs.Rate.{IsRate}
use Rattle.io_caps.specs.declared.rate.Rate.{Rate}
use Rattle.map_entry.specs.Setup.{IsSetup, SetupParts}
use Rattle.map_entry.specs.Tick.{frame_in, position_key}
use Rattle.map_entry.specs.declared.grain.Grain.{Grain}
use Rattle.map_entry.specs.declared.grain.Grain.TheVariants.{Tick, Frame}
use Rattle.tai_time.specs.Tick.{frame_up}
use Rattle.tai_time.specs.Time.{nanos_of}
use Rattle.plain_book.specs.Time.{key_at, land, land_from, sum_from, tick_after, up, up_by}
use Rattle.book_words.specs.declared.requests.When.TheVariants.{Now, At, After}
use Rattle.book_words.specs.declared.requests.When.{When}

-- a setup's ticks have frames, and few
pub has_frames : (s : SetupParts) → IsSetup s → 0 < s.device.rate.frames
has_frames s is = is.device.bounds.rate.1

pub few_frames : (s : SetupParts) → IsSetup s → s.device.rate.frames < 2 ^ 16
few_frames s is = let rate = is.device.bounds.rate in omega (arith, rate.2)

up_within : (grain : Grain) (rate : Rate) (nanos : ℕ) → 0 < rate.frames → rate.frames < 2 ^ 16
    → frame_in (up_by grain rate nanos) < rate.frames
up_within Tick rate nanos some few = omega (arith, some)
up_within Frame rate nanos some few =
    omega (arith, mod-lt (frame_up rate nanos) some, few)

max_within : (a b frames : ℕ) → frame_in a < frames → frame_in b < frames
    → frame_in (max a b) < frames
max_within a b frames first second = elim (cases_lt a b) [
  | inl less ↦
      let is : max a b ≡ b = omega (arith, less) in
      subst (λ (k : ℕ). frame_in k < frames) (sym is) second
  | inr more ↦
      let is : max a b ≡ a = omega (arith, more) in
      subst (λ (k : ℕ). frame_in k < frames) (sym is) first
]

begin_within : (s : SetupParts) (tick : ℕ) → IsSetup s
    → frame_in (key_at s tick) < s.device.rate.frames
begin_within s tick is = omega (arith, has_frames s is)

-- a position from the device's first frame on is not before the beginning of its first tick
pub from_base : (s : SetupParts) (p : ℕ) → IsSetup s → s.device.base * s.device.rate.frames ≤ p
    → key_at s s.device.base ≤ position_key s.device.rate.frames p
from_base s p is le =
    let tick : s.device.base ≤ p / s.device.rate.frames =
    le-div s.device.base p s.device.rate.frames (has_frames s is) le in
    omega (arith, tick)

-- it lands on a frame of its tick
pub lands_within : (s : SetupParts) (claims : ℕ) (when : When) → IsSetup s
    → frame_in (land s claims when) < s.device.rate.frames
lands_within s claims Now is = begin_within s (tick_after s claims) is
lands_within s claims (At time) is =
    max_within (key_at s (tick_after s claims)) (up s (nanos_of time)) s.device.rate.frames
    (begin_within s (tick_after s claims) is)
    (up_within s.grain s.device.rate (nanos_of time) (has_frames s is) (few_frames s is))
lands_within s claims (After time) is =
    let sum = sum_from s (tick_after s claims) time in
    max_within (key_at s (tick_after s claims)) (up s sum) s.device.rate.frames
    (begin_within s (tick_after s claims) is)
    (up_within s.grain s.device.rate sum (has_frames s is) (few_frames s is))
